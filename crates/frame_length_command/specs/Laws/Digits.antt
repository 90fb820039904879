-- The digits of a payload: tested one by one, and taken two by two.
use Rattle.std.specs.Prelude.{ℕ, ◌+◌, ◌/◌, ◌%◌, ◌≤◌, ◌<◌, ◌≡◌, Bool, true, false, not, ◌&&◌, List, T, leb, eqb, length, get_or, drop}
use Rattle.std.proofs.Common.{ap, ◌∙◌, add-one, arith, eqb-true, leb-true, leb-false, drop_of_length-le}
use Rattle.std.proofs.lemmas.List.{length-map}
use Rattle.std.proofs.Math.Seq.{drop-cons}
use Rattle.arith.specs.Lists.{exists, range}
use Rattle.arith.specs.Laws.Members.{mem-get_d, exists-mem, length-range, get_d-table}
use Rattle.arith.specs.Laws.Tests.{by-test, and_both}
use Rattle.table_checks.specs.Columns.{between}
use Rattle.frame_length_command.specs.Command.{hex_value, is_hex, is_payload, byte_at, payload_of}
use Rattle.frame_length_command.specs.Steps.{Digits}

-- ---- one by one

-- A number within a range is at least its start.
pub between-low : (low high b : ℕ) → between low high b ≡ true → low ≤ b
unfolding between
between-low low high b e = leb-true _ _ (and_both (leb low b) (leb b high) e).0

-- a character that is no digit
abbrev other : ℕ → Bool
other b = leb 16 (hex_value b)

module _ (s : List ℕ) (i : ℕ) (h : i < length s) where
  -- The next character is a digit: the rest decides.
  pub hex-more : other (get_or s i 0) ≡ false → is_hex (drop (i + 1) s) ≡ is_hex (drop i s)
  unfolding is_hex exists
  hex-more e = rw (add-one, drop-cons s i 0 h, e)

  -- It is none.
  pub hex-stop : other (get_or s i 0) ≡ true → is_hex (drop i s) ≡ false
  unfolding is_hex exists
  hex-stop e = rw (drop-cons s i 0 h, e)

-- No character is left.
pub hex-end : (s : List ℕ) (i : ℕ) → length s ≤ i → is_hex (drop i s) ≡ true
unfolding is_hex exists
hex-end s i h = rw (drop_of_length-le s {i = i} h)

-- ---- two by two

each : (s : List ℕ) (i : ℕ) → is_hex s ≡ true → i < length s → hex_value (get_or s i 0) < 16
unfolding is_hex
each s i e h =
    by-test (other (get_or s i 0))
    (λ t. absurd (refute (exists other s) e (exists-mem other (mem-get_d s i 0 h) (rw t tt))))
    (λ f. leb-false _ _ f)
  where
    refute : (b : Bool) → not b ≡ true → T b → ⊥
    refute true p t = let z : ◌≡◌ {A = ℕ} 0 1 = cc in omega arith
    refute false p t = t

-- A payload's characters are digits, but for a dash, which has no byte.
pub payload-digits : (s : List ℕ) → is_payload s ≡ true → Digits s
unfolding is_payload Digits
payload-digits s e i h =
    by-test (eqb (length s) 1)
    (λ t. absurd (omega (arith, eqb-true (length s) 1 t)))
    (λ f. let some : (not (eqb (length s) 0) && (eqb (length s % 2) 0 && is_hex s)) ≡ true = rw f at e in
    each s i (and_both (eqb (length s % 2) 0) (is_hex s) (and_both (not (eqb (length s) 0)) _ some).1).1 (omega arith))

pub length-payload : (s : List ℕ) → length (payload_of s) ≡ length s / 2
unfolding payload_of
length-payload s = length-map (range 0 (length s / 2)) (byte_at s) ∙ length-range 0 (length s / 2)

pub payload-at : (s : List ℕ) (i : ℕ) → i < length s / 2 → get_or (payload_of s) i 0 ≡ byte_at s i
unfolding payload_of
payload-at s i h = get_d-table (byte_at s) 0 (length s / 2) i 0 h ∙ ap (byte_at s) (omega arith)
