-- `frame_table::text::read_fields` meets its contract: after k turns the first k fields are read.
use Prim.Native.Nat.{◌*◌}
use mathlib.Core.Path.{◌≡◌}
use lib.ListN.{length}
use Rattle.arith.specs.Laws.Overwriting.{over}
use Rattle.table_checks.specs.Columns.{columns}
use Rattle.frame_table.specs.Text.{fields_from}
use Rattle.frame_table.proofs.text.read_fields.Given as goal

abbrev pub invariant-loop-k : goal.invariant-loop-k
invariant-loop-k l = (l.fields ≡ over (fields_from l.file (columns * l.lines) 0) l.k l.initial.fields) × (length l.fields ≡ length l.initial.fields)
