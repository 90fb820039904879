-- `load_sheet::loads::frame_work` meets its contract: only frames of the node count.
use Prim.Native.Nat.{ℕ, ◌/◌, ◌*◌, ◌≤◌}
use native.Mathlib.Nat.{div-le_self, mul-le-mul}
use native.Mathlib.Omega.{arith}
use borrow.Author.Tests.{eq-eqb, ne_eqb}
use Rattle.load_sheet.proofs.loads.frame_work.Goals as goal

-- the work is small
small : (length h period : ℕ) → h ≤ 1000000 → length ≤ 400 → length * (h / period) ≤ 400000000
small length h period few short =
    let less = div-le_self h period in
    mul-le-mul {n₂ = 400} {m₂ = 1000000} short (omega (arith, less, few))

pub overflow_mul-result : goal.overflow_mul-result
overflow_mul-result c = omega (arith, small c.args.g.length c.args.h c.args.g.period c.requires.0 c.requires.2)

pub returns-then-sender-node : goal.returns-then-sender-node
returns-then-sender-node c = record { value = simp (eq-eqb _ _ c.if-sender-node.true); small = small c.args.g.length c.args.h c.args.g.period c.requires.0 c.requires.2 }

pub returns-else-sender-node : goal.returns-else-sender-node
returns-else-sender-node c = record { value = simp (ne_eqb _ _ c.if-sender-node.false); small = omega arith }
