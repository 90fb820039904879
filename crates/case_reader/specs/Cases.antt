-- The parts of a case: numbers in columns, a payload that is read, and the numbers of a payload.
use Rattle.std.specs.Prelude.{ℕ, ◌+◌, ◌*◌, ◌/◌, ◌≤◌, ◌<◌, ◌≡◌, Bool, true, cond, leb, List, [], ◌∷◌, map, length, get_or, take, drop, Option, Some, None, Result, Ok, Err}
use Rattle.arith.specs.Lists.{range}

-- the number in a column, or 0
abbrev pub number_in : Option ℕ → ℕ
number_in (Some n) = n
number_in None = 0

-- what is read is free; it is told only where there is room for it, and nothing besides is touched
pub record PayloadRead (size : ℕ) (before after : List ℕ) (done : Bool) : Type 0 where
  pub room : done ≡ true → size ≤ length before
  pub left : length before < size → after ≡ before
  pub behind : drop size after ≡ drop size before

-- four bytes as a number, the lowest first
abbrev pub word_of : ℕ → ℕ → ℕ → ℕ → ℕ
word_of a b c d = a + 256 * b + 65_536 * c + 16_777_216 * d

-- number i of a payload
abbrev pub word_at : List ℕ → ℕ → ℕ
word_at payload i = word_of (get_or payload (4 * i) 0) (get_or payload (4 * i + 1) 0) (get_or payload (4 * i + 2) 0) (get_or payload (4 * i + 3) 0)

-- all of them
unfoldable pub words_of : List ℕ → List ℕ
words_of payload = map (word_at payload) (range 0 (length payload / 4))

-- "malformed" and a line feed
abbrev pub malformed : List ℕ
malformed = 109 ∷ 97 ∷ 108 ∷ 102 ∷ 111 ∷ 114 ∷ 109 ∷ 101 ∷ 100 ∷ 10 ∷ []

-- what is printed of a reply
abbrev pub reply_text : {E : Type 0} → Option (Result ℕ E) → List ℕ → List ℕ
reply_text None text = malformed
reply_text (Some (Ok n)) text = cond (leb n (length text)) (take n text) []
reply_text (Some (Err e)) text = []
