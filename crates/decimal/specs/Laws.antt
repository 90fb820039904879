-- Reading and writing a column undo each other, at any width.
--     read-write      a number that a column of width w has room for is read back
--     write_read      a column that holds a number is what writing the number gives
--     read_below      a column of w characters holds a number below 10^w
--     length-write, length-signed    a written column has its width
--     length-numbered                so have the lines that number values
use Rattle.std.specs.Prelude.{ℕ, zero, suc, ◌+◌, ◌-◌, ◌*◌, ◌/◌, ◌%◌, ◌^◌, ◌≤◌, ◌<◌, ◌≡◌, refl, List, [], ◌∷◌, ◌++◌, ℤ, pos, negsuc, length, set, ltb, leb, eqb, Some}
use Rattle.std.proofs.Common.{sym, ap, ap₂, ◌∙◌, append_assoc, append-nil, pow-suc, zero-add, add-zero, add-suc, suc-add, not-suc-le-zero, arith, lt-ltb, le-ltb, ltb-true, ltb-false, eqb-true, ne_eqb, length-append}
use Rattle.std.proofs.lemmas.Bool.{lt-leb, eqb-false}
use borrow.Rule.Slice.PartMut.{mid_of, put_mid}
use Rattle.arith.specs.Laws.Tests.{by-test}
use Rattle.arith.specs.Laws.Overwriting.{begun-none, begun-filled, begun-element, begun_all}
use Rattle.arith.specs.Laws.Lines.{Lines, length-lines}
use Rattle.decimal.specs.declared.Prefix.{Prefix}
use Rattle.decimal.specs.declared.Prefix.TheVariants.{Blank, Number, Minus, Negative, Broken}
use Rattle.decimal.specs.Decimal.{with_digit, extended, extended_by, value_of, read_column, last_of, shortened, written, write_column, write_signed}
use Rattle.decimal.specs.Numbered.{numbered_line, numbered_at, numbered_lines}

-- ---- one character

-- a prefix that a column can begin with
abbrev Sound : Prefix → Type 0
Sound Blank = Unit {0}
Sound (Number n) = Unit {0}
Sound Minus = ⊥
Sound (Negative n) = ⊥
Sound Broken = ⊥

digit : (n b : ℕ) → Sound (with_digit n b) → (48 ≤ b) × (b ≤ 57) × (with_digit n b ≡ Number (n * 10 + (b - 48)))
digit n b s =
    by-test (ltb b 48) (λ e. absurd (simp e at s))
    (λ e₁. by-test (ltb 57 b) (λ e. absurd (simp (e₁, e) at s))
    (λ e₂. by-test (leb 100_000_000_000_000_000 n) (λ e. absurd (simp (e₁, e₂, e) at s))
    (λ e₃. (ltb-false b 48 e₁, ltb-false 57 b e₂, simp (e₁, e₂, e₃)))))

-- taking the last character off undoes adding it
undo : (p : Prefix) (b : ℕ) → Sound (extended p b) → (shortened (extended p b) ≡ p) × (last_of (extended p b) ≡ b)
undo Blank b s =
    by-test (eqb b 32)
    (λ e. simp e (refl, sym (eqb-true b 32 e)))
    (λ e. let d = digit 0 b (simp e at s) in
    let small : 0 * 10 + (b - 48) < 10 = omega (arith, d) in
    simp (e, d.2, lt-ltb _ _ small) (refl, omega (arith, d)))
undo (Number n) b s =
    by-test (eqb n 0)
    (λ e. absurd (simp e at s))
    (λ e. let d = digit n b (simp e at s) in
    let h : (n ≡ 0 → ⊥) = eqb-false n 0 e in
    let large : 10 ≤ n * 10 + (b - 48) = omega arith in
    let q : (n * 10 + (b - 48)) / 10 ≡ n = omega (arith, d) in
    simp (e, d.2, le-ltb _ _ large, q) (refl, omega (arith, d)))
undo Minus b s = absurd s
undo (Negative n) b s = absurd s
undo Broken b s = absurd s

-- adding the last character undoes taking it off
with-last : (n m : ℕ) → n < 100_000_000_000_000_000 → n * 10 + m % 10 ≡ m → with_digit n (48 + m % 10) ≡ Number m
with-last n m h e =
    let low : 48 ≤ 48 + m % 10 = omega arith in
    let high : 48 + m % 10 ≤ 57 = omega arith in
    let same : n * 10 + ((48 + m % 10) - 48) ≡ m = omega arith in
    simp (le-ltb _ _ low, le-ltb _ _ high, lt-leb _ _ h) (ap Number same)

redo : (n : ℕ) → n < 1_000_000_000_000_000_000 → extended (shortened (Number n)) (last_of (Number n)) ≡ Number n
redo n h =
    by-test (ltb n 10)
    (λ e. let k : n < 10 = ltb-true n 10 e in
    let no-space : 48 + n % 10 ≡ 32 → ⊥ = omega arith in
    simp (e, ne_eqb _ _ no-space) (with-last 0 n (omega arith) (omega arith)))
    (λ e. let k : 10 ≤ n = ltb-false n 10 e in
    let some : n / 10 ≡ 0 → ⊥ = omega arith in
    simp (e, ne_eqb _ _ some) (with-last (n / 10) n (omega arith) (omega arith)))

-- ---- a column

-- a column of width w has room for a prefix, and for a number of at most 18 digits
abbrev Room : ℕ → Prefix → Type 0
Room w Blank = Unit {0}
Room w (Number n) = (0 < w) × (n < 10 ^ w) × (n < 1_000_000_000_000_000_000)
Room w Minus = ⊥
Room w (Negative n) = ⊥
Room w Broken = ⊥

shortened-room : (w n : ℕ) → Room (suc w) (Number n) → Room w (shortened (Number n))
shortened-room w n r =
    by-test (ltb n 10)
    (λ e. simp e tt)
    (λ e. let k : n < 10 ^ w * 10 = rw pow-suc at r.1 in
    simp e (wide w n (ltb-false n 10 e) r.1, omega arith, omega (arith, r.2)))
  where
    wide : (w n : ℕ) → 10 ≤ n → n < 10 ^ suc w → 0 < w
    wide zero n h k = absurd (let z : n < 10 = k in omega arith)
    wide (suc v) n h k = omega arith

read-written : (w : ℕ) (p : Prefix) (after : List ℕ) → Room w p → extended_by Blank (written w p after) ≡ extended_by p after
read-written zero Blank after r = refl
read-written zero (Number n) after r = absurd (not-suc-le-zero r.0)
read-written zero Minus after r = absurd r
read-written zero (Negative n) after r = absurd r
read-written zero Broken after r = absurd r
read-written (suc w) Blank after r = read-written w Blank (32 ∷ after) tt
read-written (suc w) (Number n) after r =
    read-written w (shortened (Number n)) (last_of (Number n) ∷ after) (shortened-room w n r)
    ∙ ap (λ (q : Prefix). extended_by q after) (redo n r.2)
read-written (suc w) Minus after r = absurd r
read-written (suc w) (Negative n) after r = absurd r
read-written (suc w) Broken after r = absurd r

pub read-write : (w n : ℕ) → 0 < w → n < 10 ^ w → n < 1_000_000_000_000_000_000 → read_column (write_column w n) ≡ Some n
unfolding read_column write_column
read-write w n h k l = ap value_of (read-written w (Number n) [] (h, k, l))

-- a prefix that is not broken in the end was never broken
broken-stays : (s : List ℕ) → extended_by Broken s ≡ Broken
broken-stays [] = refl
broken-stays (b ∷ s) = broken-stays s

sound-before : (p : Prefix) (s : List ℕ) → Sound (extended_by p s) → Sound p
sound-before Blank s h = tt
sound-before (Number n) s h = tt
sound-before Minus [] h = h
sound-before Minus (b ∷ s) h = let k : Sound (extended_by Broken s) = h in rw broken-stays at k
sound-before (Negative n) [] h = h
sound-before (Negative n) (b ∷ s) h = let k : Sound (extended_by Broken s) = h in rw broken-stays at k
sound-before Broken s h = rw broken-stays at h

written_back : (k : ℕ) (p : Prefix) (s after : List ℕ) → Sound (extended_by p s)
    → written (k + length s) (extended_by p s) after ≡ written k p (s ++ after)
written_back k p [] after h = ap (λ (w : ℕ). written w p after) (add-zero k)
written_back k p (b ∷ s) after h =
    let u = undo p b (sound-before (extended p b) s h) in
    ap (λ (w : ℕ). written w (extended_by (extended p b) s) after) (add-suc k (length s) ∙ sym (suc-add k (length s)))
    ∙ written_back (suc k) (extended p b) s after h
    ∙ ap₂ (λ (q : Prefix) (c : ℕ). written k q (c ∷ s ++ after)) u.0 u.1

number_of : (p : Prefix) (n : ℕ) → value_of p ≡ Some n → p ≡ Number n
number_of Blank n e = let z : ◌≡◌ {A = ℕ} 0 1 = cc in absurd (omega arith)
number_of (Number m) n e = let z : m ≡ n = cc in ap Number z
number_of Minus n e = let z : ◌≡◌ {A = ℕ} 0 1 = cc in absurd (omega arith)
number_of (Negative m) n e = let z : ◌≡◌ {A = ℕ} 0 1 = cc in absurd (omega arith)
number_of Broken n e = let z : ◌≡◌ {A = ℕ} 0 1 = cc in absurd (omega arith)

pub write_read : (s : List ℕ) (n : ℕ) → read_column s ≡ Some n → write_column (length s) n ≡ s
unfolding read_column write_column
write_read s n e =
    let e' : extended_by Blank s ≡ Number n = number_of (extended_by Blank s) n e in
    let b = written_back 0 Blank s [] (rw e' tt) in
    simp (e', zero-add, append-nil) at b

-- ---- how great a number is

-- what is known of a prefix of i characters
abbrev Below : ℕ → Prefix → Type 0
Below i Blank = 0 < 10 ^ i
Below i (Number n) = n < 10 ^ i
Below i Minus = Unit {0}
Below i (Negative n) = Unit {0}
Below i Broken = Unit {0}

digit-below : (n b i : ℕ) → n < 10 ^ i → Below (suc i) (with_digit n b)
digit-below n b i h =
    by-test (ltb b 48) (λ e. simp e tt)
    (λ e₁. by-test (ltb 57 b) (λ e. simp (e₁, e) tt)
    (λ e₂. by-test (leb 100_000_000_000_000_000 n) (λ e. simp (e₁, e₂, e) tt)
    (λ e₃. let l : n * 10 + (b - 48) < 10 ^ suc i = omega (arith, pow-suc 10 i, ltb-false 57 b e₂) in simp (e₁, e₂, e₃) l)))

extended-below : (p : Prefix) (b i : ℕ) → Below i p → Below (suc i) (extended p b)
extended-below Blank b i h =
    by-test (eqb b 32) (λ e. let l : 0 < 10 ^ suc i = omega (arith, pow-suc 10 i) in simp e l) (λ e. simp e (digit-below 0 b i h))
extended-below (Number n) b i h = by-test (eqb n 0) (λ e. simp e tt) (λ e. simp e (digit-below n b i h))
extended-below Minus b i h = tt
extended-below (Negative n) b i h = tt
extended-below Broken b i h = tt

all-below : (s : List ℕ) (p : Prefix) (i : ℕ) → Below i p → Below (i + length s) (extended_by p s)
all-below [] p i h = rw (add-zero i) h
all-below (b ∷ s) p i h =
    rw (add-suc i (length s) ∙ sym (suc-add i (length s))) (all-below s (extended p b) (suc i) (extended-below p b i h))

pub read_below : (s : List ℕ) (n : ℕ) → read_column s ≡ Some n → n < 10 ^ length s
unfolding read_column
read_below s n e = rw (number_of (extended_by Blank s) n e, zero-add) at (all-below s Blank 0 (omega arith))

-- ---- how wide a column is

length-written : (w : ℕ) (p : Prefix) (after : List ℕ) → length (written w p after) ≡ w + length after
length-written zero p after = sym (zero-add (length after))
length-written (suc w) p after = length-written w (shortened p) (last_of p ∷ after) ∙ add-suc w (length after) ∙ sym (suc-add w (length after))

pub length-write : (w n : ℕ) → length (write_column w n) ≡ w
unfolding write_column
length-write w n = length-written w (Number n) [] ∙ add-zero w

pub length-signed : (w : ℕ) (z : ℤ) → length (write_signed w z) ≡ w
unfolding write_signed
length-signed w (pos n) = length-written w (Number n) [] ∙ add-zero w
length-signed w (negsuc n) = length-written w (Negative (suc n)) [] ∙ add-zero w

-- ---- lines that number values

-- The two columns and the line feed, one behind the other, are the line.
pub numbered-written : (w number value : ℕ) (line a b : List ℕ) → length line ≡ w + 4
    → a ≡ write_column (length (mid_of 0 3 line)) number
    → b ≡ write_column (length (mid_of 3 (3 + w - 3) (put_mid 0 3 line a))) value
    → set (put_mid 3 (3 + w - 3) (put_mid 0 3 line a) b) (3 + w) 10 ≡ numbered_line w number value
unfolding numbered_line
numbered-written w number value line a b size p q =
    let wide : 3 + w - 3 ≡ w = omega arith in
    let one = begun-filled _ line _ 0 (begun-none line) (λ v. write_column v number) (λ v. length-write v number) a 3 (omega arith) p in
    let two = begun-filled _ line _ 3 one (λ v. write_column v value) (λ v. length-write v value) b w (omega arith) (rw wide at q) in
    rw wide (begun_all _ line _ (3 + w + 1) (begun-element _ line _ (3 + w) two 10 (omega arith)) (omega arith) ∙ simp append_assoc)

-- Each has the value's width and 4 characters more.
pub numbered-lines : (w : ℕ) (values : List ℕ) → Lines (w + 4) (numbered_at w values) (numbered_lines w values)
unfolding numbered_at numbered_line
numbered-lines w values = record { wide = λ i. simp (length-append, length-write) (omega arith); none = λ i. refl; more = λ n i. refl }

pub length-numbered : (w : ℕ) (values : List ℕ) (n : ℕ) → length (numbered_lines w values n 0) ≡ (w + 4) * n
length-numbered w values n = length-lines (numbered-lines w values) n 0
