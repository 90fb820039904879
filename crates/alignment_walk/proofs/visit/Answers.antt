use Prim.Native.Nat.{◌+◌, ◌-◌, ◌≤◌}
use mathlib.Core.Path.{◌≡◌, ◌∙◌}
use native.Mathlib.Omega.{arith}
use lib.ListN.{get_or}
use Rattle.bus_model.specs.declared.Frame.{Frame}
use Rattle.bus_model.specs.Frame.{row}
use Rattle.workload.specs.Prepared.{Fine, table_of}
use Rattle.workload.proofs.Laws.Fine.{part-listed, sum-next, sum-all}
use Rattle.alignment_walk.specs.Steps.{wait_from, extra_demand, NotesOf}
use Rattle.alignment_walk.proofs.Laws.Parts.{next-late, first_next, next-or-end}
use Rattle.alignment_walk.proofs.Laws.Steps.{note-more, note-left, note-all, extra-small, wait-rest, wait-next}
use Rattle.alignment_walk.proofs.visit.Goals as goal
use Rattle.alignment_walk.proofs.visit.Goals.{After-in_rest-extra, In-loop-i}

-- the frame of the row
abbrev frame : (c : In-loop-i) → Frame
frame c = row (table_of c.args.rows.now c.args.prepared.now) (get_or c.args.part.now c.loop-i.i 0)

-- it is within its limits
fine : (c : In-loop-i) → Fine (frame c)
fine c = c.requires.fine_part.fine _ (part-listed (table_of c.args.rows.now c.args.prepared.now) c.args.part.now c.loop-i-test.true)

-- and one of 64
few : (c : In-loop-i) → c.loop-i.i + 1 ≤ 64
few c = omega (arith, c.loop-i-test.true, c.requires.fine_part.few)

-- what is noted of it
notes : (c : In-loop-i) → NotesOf c.args.n (frame c) c.args.notes.now c.loop-i.i
notes c = c.requires.notes.each c.loop-i.i c.loop-i-test.true

-- how long it is waited for, from the last alignment and from this one
waited : (c : In-loop-i) → let a = c.args in let w = get_or c.loop-i.waits c.loop-i.i 0 in (a.gap ≤ w) × (w - a.gap ≡ wait_from a.a a.a (frame c))
waited c =
    let is = c.loop-i.invariant.4.each c.loop-i.i (omega arith) c.loop-i-test.true in
    let late = next-late (fine c) c.args.a in
    (omega (arith, c.requires.gap_le_a), omega (arith, c.requires.gap_le_a))

pub overflow_sub-wait : goal.overflow_sub-wait
overflow_sub-wait c = omega (arith, (waited (goal.at.overflow_sub-wait c).In-loop-i).0)

-- what the rest asks for
extra : (c : After-in_rest-extra) → let a = c.args in let g = row (table_of a.rows.now a.prepared.now) (get_or a.part.now c.loop-i.i 0) in
    Fine g → NotesOf a.n g a.notes.now c.loop-i.i → get_or c.loop-i.waits c.loop-i.i 0 - a.gap ≡ wait_from a.a a.a g
    → (c.in_rest-extra.result ≡ extra_demand a.a a.n g) × (c.in_rest-extra.result ≤ 400)
extra c good noted late =
    let is = rw (noted.length, noted.rest) at c.in_rest-extra.ensures ∙ wait-rest good c.args.a late c.args.n in
    (is, omega (arith, is, extra-small good c.args.a c.args.n))

pub loop-i-preserved : goal.loop-i-preserved
loop-i-preserved c =
    let l = c.loop-i in
    let less = c.loop-i-test.true in
    let a = c.args in
    let i = (goal.at.loop-i-preserved c).In-loop-i in
    let asked = extra (goal.at.loop-i-preserved c).After-in_rest-extra (fine i) (notes i) (waited i).1 in
    let later = rw (notes i).period at c.wait_after-later.ensures ∙ wait-next (fine i) a.a (waited i).1 in (
      sum-next l.invariant.0 less asked.0 asked.1,
      first_next {x = a.a + c.wait_after-later.result} l.invariant.1 less (omega (arith, later, next-late (fine i) (a.a + 1))) (omega (arith, c.min-least.ensures)),
      omega (arith, l.invariant.2, c.min-least.ensures),
      note-more _ l.invariant.3 (omega (arith, few i)) later,
      note-left _ l.invariant.4,
    )

pub returns : goal.returns
returns c =
    let l = c.loop-i in
    let over = c.loop-i-test.false in
    let all = sum-all l.invariant.0 over c.requires.fine_part.few in
    record { extra_value = all.0; next = next-or-end c.requires.fine_part l.invariant.1 over (omega (arith, l.invariant.2, c.requires.gap_le_a)); small = (all.1, l.invariant.2); waits = note-all l.invariant.3 over }
