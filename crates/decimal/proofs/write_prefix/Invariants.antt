-- `decimal::write_prefix` meets its contract. The loop's invariant: the first i characters of the prefix, and then what is
-- written, are the whole column.
use Prim.Native.Nat.{◌≤◌}
use mathlib.Core.Path.{◌≡◌}
use mathlib.Core.List.{[]}
use lib.ListN.{length, drop}
use Rattle.decimal.specs.Decimal.{written}
use Rattle.decimal.proofs.write_prefix.Given as goal

abbrev pub invariant-loop-i : goal.invariant-loop-i
invariant-loop-i l =
    (written l.i l.p (drop l.i l.out) ≡ written (length l.initial.out) l.initial.p []) × (l.i ≤ length l.out) × (length l.out ≡ length l.initial.out)
