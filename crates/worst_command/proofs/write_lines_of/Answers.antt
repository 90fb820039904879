-- The parts are written where they have room, one behind the other, and else the area is left.
use Rattle.std.specs.Prelude.{Ok}
use Prim.Native.Nat.{ℕ}
use mathlib.Core.Path.{◌≡◌, refl, ap, ◌∙◌}
use native.Mathlib.Omega.{arith}
use borrow.Author.Rules.{rules}
use lib.ListN.{length, length-take, length-drop}
use Rattle.decimal.specs.Numbered.{numbered_lines}
use Rattle.workload.proofs.Laws.Groups.{fine-never}
use Rattle.frame_table.specs.Laws.Areas.{area-short, area-written}
use Rattle.worst_command.specs.Laws.Text.{whole, length_whole, whole-written}
use Rattle.worst_command.proofs.write_lines_of.Goals as goal
use Rattle.worst_command.proofs.write_lines_of.Goals.{Start}

-- the starts are as many as the groups
long : (s : Start) → length s.args.starts ≡ 16
long s = search rules

pub returns-then-out-lt-LONGEST : goal.returns-then-out-lt-LONGEST
returns-then-out-lt-LONGEST c =
    let a = c.args in
    let table = a.table.now in
    let answer = area-short (Ok tt) (whole table.lengths table.rows.now a.i a.starts a.instance a.response) a.out.now _ _ (length_whole table.lengths table.rows.now a.i a.starts a.instance a.response) refl c.if-out-lt-LONGEST.true c.no_room.ensures in record { value = answer.0; out_after = answer.1 }

pub write_row-requires : goal.write_row-requires
write_row-requires c = record { fine_faults = fine-never; i_in_bounds = (c.requires, simp (length-take, length-drop) (omega (arith, c.if-out-lt-LONGEST.false))) }

pub returns : goal.returns
returns c =
    let a = c.args in
    let table = a.table.now in
    let answer = area-written (Ok tt) (whole table.lengths table.rows.now a.i a.starts a.instance a.response) a.out.now _ _ (length_whole table.lengths table.rows.now a.i a.starts a.instance a.response) refl c.if-out-lt-LONGEST.false (whole-written table.lengths table.rows.now a.i a.starts a.instance a.response a.out.now _ _ _ c.write_row.ensures (c.write_numbered.ensures ∙ ap (λ (n : ℕ). numbered_lines 8 a.starts n 0) (long (goal.at.returns c).Start)) c.write_response.ensures) in record { value = answer.0; out_after = answer.1 }
