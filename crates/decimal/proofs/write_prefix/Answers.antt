use Prim.Native.Nat.{ℕ, zero, suc, ◌-◌, ◌≤◌, ◌<◌}
use mathlib.Core.Path.{◌≡◌, sym, ◌∙◌}
use mathlib.Core.List.{List, ◌∷◌}
use native.Mathlib.Nat.{not-suc-le-zero}
use native.Mathlib.Numerals.{sub-one}
use native.Mathlib.Omega.{arith}
use borrow.Author.Rules.{rules}
use lib.ListN.{length, drop, set, length-set}
use lib.Seq.{drop-cons, drop-set-lt, get_or-set_same, drop-length}
use Rattle.decimal.specs.declared.Prefix.{Prefix}
use Rattle.decimal.specs.Decimal.{shortened, last_of, written}
use Rattle.decimal.proofs.write_prefix.Goals as goal

drop-set : (l : List ℕ) (j b : ℕ) → j < length l → drop j (set l j b) ≡ b ∷ drop (suc j) l
drop-set l j b h =
    let k : j < length (set l j b) = simp length-set h in
    rw (drop-cons (set l j b) j 0 k, get_or-set_same l j b 0 h, drop-set-lt (suc j) l j b (omega arith))

turn : (out : List ℕ) (i : ℕ) (p q : Prefix) (b : ℕ) → 0 < i → i ≤ length out → q ≡ shortened p → b ≡ last_of p
    → written (i - 1) q (drop (i - 1) (set out (i - 1) b)) ≡ written i p (drop i out)
turn out zero p q b h k e d = absurd (not-suc-le-zero h)
turn out (suc j) p q b h k e d = rw (sub-one (suc j), drop-set out j b k, e, d)

done : (out : List ℕ) (i : ℕ) (p : Prefix) → i ≤ 0 → written i p (drop i out) ≡ out
done out i p h = let e : i ≡ 0 = omega arith in rw e

pub loop-i-init : goal.loop-i-init
loop-i-init c = (rw drop-length, search rules, search rules)

pub loop-i-preserved : goal.loop-i-preserved
loop-i-preserved c =
    let w = turn _ _ _ _ _ c.loop-i-test.true c.loop-i.invariant.1 c.shorten-p.ensures c.last.ensures in
    (w ∙ c.loop-i.invariant.0, simp length-set (omega arith), simp length-set (omega arith))

pub returns : goal.returns
returns c =
    sym (done _ _ _ c.loop-i-test.false) ∙ c.loop-i.invariant.0
