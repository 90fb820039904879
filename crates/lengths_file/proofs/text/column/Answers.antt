-- `lengths_file::text::column` meets its contract: the part of the file that is read is the column.
use Prim.Native.Nat.{ℕ, ◌+◌, ◌-◌, ◌*◌}
use mathlib.Core.Path.{◌≡◌, ap, ◌∙◌}
use lib.ListN.{take, drop}
use Rattle.decimal.specs.Decimal.{read_column}
use native.Mathlib.Omega.{arith}
use Rattle.lengths_file.specs.Lengths.{column_at}
use Rattle.lengths_file.proofs.text.column.Goals as goal

pub returns : goal.returns
unfolding column_at
returns c =
    let a = c.args in
    let w : 46 * a.k + 5 * a.s + 5 - (46 * a.k + 5 * a.s) ≡ 5 = omega arith in
    c.read.ensures ∙ ap (λ (n : ℕ). read_column (take n (drop (46 * a.k + 5 * a.s) a.file.now))) w
