use Prim.Native.Nat.{ℕ, ◌+◌, ◌-◌, ◌*◌, ◌≤◌}
use mathlib.Core.Path.{sym, ap, ◌∙◌}
use native.Mathlib.Omega.{arith}
use native.Mathlib.Nat.{mod-eq-sub-div-mul}
use Rattle.bus_model.specs.Bounds.{phase}
use Rattle.workload.proofs.Laws.Fine.{sum-next, sum-all}
use Rattle.alignment_walk.specs.Steps.{wait_from, whole_demand}
use Rattle.alignment_walk.proofs.Laws.Parts.{wait-first}
use Rattle.alignment_walk.proofs.Laws.Steps.{note-more, note-all, notes-more, notes-all, whole-small}
use Rattle.alignment_walk.proofs.begin.Goals as goal
use Rattle.alignment_walk.proofs.begin.Goals.{After-listed_row-r, After-quotient-times, In-loop-i}

-- the row is one of 64
few : (c : In-loop-i) → c.loop-i.i + 1 ≤ 64
few c = omega (arith, c.loop-i-test.true, c.requires.fine_part.few)

-- and their demand is small
small : (c : After-quotient-times) → c.listed_row-r.result.frame.length * c.quotient-times.result ≤ 400000400
small c = rw c.quotient-times.ensures (whole-small c.listed_row-r.ensures.fine c.args.n c.requires.n_bound.0)

-- the first alignment is not after its first release
first-inside : (c : After-listed_row-r) → c.args.first ≤ phase c.listed_row-r.result.frame
first-inside c = c.requires.n_bound.1 _ c.listed_row-r.ensures.listed

pub loop-i-preserved : goal.loop-i-preserved
loop-i-preserved c =
    let l = c.loop-i in
    let a = c.args in
    let g = c.listed_row-r.result.frame in
    let read = c.listed_row-r.ensures.frame_value in
    let times = c.quotient-times.ensures in
    let room = few (goal.at.loop-i-preserved c).In-loop-i in (
      sum-next l.invariant.0 c.loop-i-test.true (ap (λ (x : ℕ). g.length * x) times ∙ ap (whole_demand a.n) read) (small (goal.at.loop-i-preserved c).After-quotient-times),
      notes-more l.invariant.1 (omega arith) read (ap (λ (x : ℕ). a.n - x * g.period) times ∙ sym (mod-eq-sub-div-mul a.n g.period)),
      note-more _ l.invariant.2 (omega arith) (ap (λ (x : ℕ). x - a.first) c.phase_of.ensures.value ∙ wait-first c.listed_row-r.ensures.fine a.first (first-inside (goal.at.loop-i-preserved c).After-listed_row-r) ∙ ap (wait_from a.first a.first) read),
    )

pub returns : goal.returns
returns c =
    let l = c.loop-i in
    let over = c.loop-i-test.false in
    let all = sum-all l.invariant.0 over c.requires.fine_part.few in
    record { value = all.0; small = all.1; notes = notes-all l.invariant.1 over; waits = note-all l.invariant.2 over }
