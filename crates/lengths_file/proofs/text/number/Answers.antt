-- `lengths_file::text::number` meets its contract: a number of five digits has 32 bits.
use Rattle.std.specs.Prelude.{ℕ, ◌+◌, ◌*◌, ◌≤◌, ◌<◌, ◌≡◌, refl, List, length, Option, Some, None}
use Rattle.std.proofs.Common.{sym, ap, ◌∙◌, arith}
use Rattle.std.specs.Option.{unwrap_or}
use Rattle.decimal.specs.Decimal.{read_column}
use Rattle.lengths_file.specs.Lengths.{column_at, number_in}
use Rattle.lengths_file.proofs.Laws.Reading.{column-below}
use Rattle.lengths_file.proofs.text.number.Goals as goal

same : (o : Option ℕ) → unwrap_or o 0 ≡ number_in o
unfolding number_in
same (Some n) = refl
same None = refl

small : (file : List ℕ) (k s : ℕ) → 46 * k + 46 ≤ length file → s < 9 → (o : Option ℕ) → o ≡ read_column (column_at file k s) → unwrap_or o 0 < 100000
small file k s room l (Some n) e = column-below file k s room l (sym e)
small file k s room l None e = omega arith

pub overflow_cast-result : goal.overflow_cast-result
overflow_cast-result c = record { fits = omega (arith, small _ _ _ c.requires.0 c.requires.1 _ c.column.ensures, c.unwrap_or.ensures) }

pub returns : goal.returns
returns c = c.unwrap_or.ensures ∙ same _ ∙ ap number_in c.column.ensures
