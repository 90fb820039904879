use Prim.Native.Nat.{ℕ, ◌+◌, ◌≤◌, ◌<◌}
use mathlib.Core.Path.{◌≡◌, refl, ap, sym, ◌∙◌}
use mathlib.Core.List.{List}
use native.Mathlib.Numerals.{add-one}
use lib.ListN.{length, get_or, drop, drop_of_length-le}
use lib.Seq.{drop-cons}
use Rattle.decimal.specs.declared.Prefix.{Prefix}
use Rattle.decimal.specs.Decimal.{extended, extended_by, value_of, read_column}
use Rattle.decimal.proofs.read.Goals as goal

turn : (s : List ℕ) (i : ℕ) (p q : Prefix) → i < length s → q ≡ extended p (get_or s i 0)
    → extended_by q (drop (i + 1) s) ≡ extended_by p (drop i s)
turn s i p q h e = rw (e, add-one, drop-cons s i 0 h)

done : (s : List ℕ) (i : ℕ) (p : Prefix) → length s ≤ i → extended_by p (drop i s) ≡ p
done s i p h = rw (drop_of_length-le s h)

pub loop-byte-init : goal.loop-byte-init
loop-byte-init c = refl

pub loop-byte-preserved : goal.loop-byte-preserved
loop-byte-preserved c =
    turn _ _ _ _ c.loop-byte-test.true c.extend-p.ensures ∙ c.loop-byte.invariant

pub returns : goal.returns
unfolding read_column
returns c =
    c.value.ensures ∙ ap value_of (sym (done _ _ _ c.loop-byte-test.false) ∙ c.loop-byte.invariant)
