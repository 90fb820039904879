-- The line of the instance: how long it is, and written column by column.
use Rattle.std.specs.Prelude.{ℕ, ◌+◌, ◌-◌, ◌≡◌, List, length, set}
use Rattle.std.proofs.Common.{arith, length-append}
use borrow.Rule.Slice.PartMut.{mid_of, put_mid}
use Rattle.arith.specs.Laws.Overwriting.{begun-none, begun-filled, begun-element, begun_all}
use Rattle.decimal.specs.Decimal.{write_column}
use Rattle.decimal.specs.Laws.{length-write}
use Rattle.explain_command.specs.Command.{instance_width, instance_line}

pub length-instance : (q : ℕ) → length (instance_line q) ≡ instance_width q + 1
unfolding instance_line
length-instance q = simp (length-append, length-write)

-- The column and the line feed are the line.
pub instance-written : (q end : ℕ) (line a : List ℕ) → length line ≡ instance_width q + 1 → end ≡ instance_width q
    → a ≡ write_column (length (mid_of 0 (end - 0) line)) q → set (put_mid 0 (end - 0) line a) end 10 ≡ instance_line q
unfolding instance_line
instance-written q end line a size is p =
    let wide : end - 0 ≡ end = omega arith in
    let from : 0 + end ≡ end = omega arith in
    let one = rw from at (begun-filled _ line _ 0 (begun-none line) (λ w. write_column w q) (λ w. length-write w q) a end (omega arith) (rw wide at p)) in
    rw (wide, ← is) (begun_all _ line _ (end + 1) (begun-element _ line _ end one 10 (omega arith)) (omega arith))
