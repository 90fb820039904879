-- The line of a length: how long it is, and written column by column.
use Rattle.std.specs.Prelude.{ℕ, ◌≤◌, ◌≡◌, List, ◌++◌, length, set, drop}
use Rattle.std.proofs.Common.{arith, length-append}
use borrow.Rule.Slice.PartMut.{mid_of, put_mid}
use Rattle.arith.specs.Laws.Overwriting.{begun-none, begun-filled, begun-element}
use Rattle.decimal.specs.Decimal.{write_column}
use Rattle.decimal.specs.Laws.{length-write}
use Rattle.frame_length_command.specs.Command.{length_line}

pub length-length : (ticks : ℕ) → length (length_line ticks) ≡ 5
unfolding length_line
length-length ticks = simp (length-append, length-write)

-- The column and the line feed are the line.
pub length-written : (ticks : ℕ) (d a : List ℕ) → 5 ≤ length d → a ≡ write_column (length (mid_of 0 4 d)) ticks
    → set (put_mid 0 4 d a) 4 10 ≡ length_line ticks ++ drop 5 d
unfolding length_line
length-written ticks d a room p =
    let one = begun-filled _ d _ 0 (begun-none d) (λ w. write_column w ticks) (λ w. length-write w ticks) a 4 (omega arith) p in
    (begun-element _ d _ 4 one 10 (omega arith)).is
