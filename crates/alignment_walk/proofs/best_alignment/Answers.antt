use Rattle.std.specs.Prelude.{Some}
use Prim.Native.Nat.{ℕ, ◌+◌, ◌-◌, ◌*◌, ◌≤◌, max}
use mathlib.Core.Path.{◌≡◌, refl, sym, ap, ◌∙◌}
use mathlib.Core.List.Memᴰ.{head as here}
use mathlib.Core.List.{List, ◌∷◌, Memᴰ as Mem}
use native.Mathlib.Omega.{arith}
use native.Mathlib.Nat.{max-zero, zero-max, add-zero, zero-add, sub-zero}
use lib.ListN.{length}
use Rattle.arith.specs.Lists.{sum, greatest}
use Rattle.arith.specs.Least.{least}
use Rattle.arith.specs.Laws.Least.{least-within}
use Rattle.arith.specs.Laws.Walks.{keep-next, keep-found, keep-end, walk_start, walk_more, walk-less, walk_end, greatest-more, length_more}
use Rattle.bus_model.specs.Bounds.{work_at, or_empty}
use Rattle.bus_model.proofs.Theory.Alignment.{or-empty}
use Rattle.workload.specs.Prepared.{frames_in, table_of, is_instant, instants_in}
use Rattle.alignment_walk.specs.Steps.{extra_demand}
use Rattle.alignment_walk.proofs.Laws.Parts.{ended_at, ended-none}
use Rattle.alignment_walk.proofs.Laws.Steps.{noted-next, phase-late, work-split}
use Rattle.alignment_walk.proofs.Laws.Walk.{visits-are}
use Rattle.alignment_walk.proofs.best_alignment.Goals as goal
use Rattle.alignment_walk.proofs.best_alignment.Goals.{After-visit-v, Else-end-a, Joined-work-visited, else-work-visited, then-work-visited}

pub returns-in_default : goal.returns-in_default
unfolding greatest or_empty
returns-in_default c =
    let a = c.args in
    let empty = rw sub-zero at (keep-end (is_instant (frames_in (table_of a.rows.now a.prepared.now) a.part.now)) a.end 0 (sym c.next_alignment.ensures ∙ c.in_default.is)) in
    record { among = rw empty (here refl); work_value = rw empty; count = sym (ap length (visits-are _ a.end ∙ empty)); small = (omega arith, omega arith) }

pub begin-whole-requires : goal.begin-whole-requires
begin-whole-requires c =
    record { fine_part = c.requires.fine_part; n_bound = (c.requires.end_bound.1, phase-late c.requires.fine_part c.args.end (sym c.next_alignment.ensures ∙ c.in-Some.is)); notes_len = (refl, refl) }

pub loop-work-init : goal.loop-work-init
loop-work-init c =
    let is = c.next_alignment.ensures in
    let e = c.args.end in
    let (low, high, t) = least-within _ _ (sym is ∙ c.in-Some.is) in
    let from = rw sub-zero at (keep-next _ e 0 _ (sym is ∙ c.in-Some.is)) in (
      walk_start _ _ _ _ _ _ high from (zero-max _),
      keep-found _ _ 0 is c.in-Some.is,
      omega arith,
      keep-found _ _ 0 is c.in-Some.is,
      omega arith,
      rw sub-zero c.begin-whole.ensures.waits,
      walk_start _ _ _ _ _ _ high from (zero-add _),
      omega arith,
    )

-- the visit's work
visits : (c : After-visit-v)
    → (c.begin-whole.result + c.visit-v.result.extra ≡ work_at (frames_in (table_of c.args.rows.now c.args.prepared.now) c.args.part.now) c.loop-work.a c.args.n)
    × (c.begin-whole.result + c.visit-v.result.extra ≤ 64 * 400400400)
visits c =
    let gs = frames_in (table_of c.args.rows.now c.args.prepared.now) c.args.part.now in (
      ap (λ (x : ℕ). c.begin-whole.result + x) c.visit-v.ensures.extra_value ∙ ap (λ (x : ℕ). x + sum (extra_demand c.loop-work.a c.args.n) gs) c.begin-whole.ensures.value ∙ work-split gs c.requires.fine_part.fine c.loop-work.a c.args.n,
      omega (arith, c.begin-whole.ensures.small, c.visit-v.ensures.small.0),
    )

-- the greater work is kept
greater : (c : Joined-work-visited) → c.if-work-visited.work ≡ max c.loop-work.work (c.begin-whole.result + c.visit-v.result.extra)
greater c = elim c.if-work-visited.branch [ then-work-visited w ↦ omega (arith, w.if-work-visited.true, w.work-is) | else-work-visited w ↦ omega (arith, w.if-work-visited.false, w.work-is) ]

-- so the walk may leave the alignment
step : (c : Joined-work-visited)
    → c.begin-whole.result + c.visit-v.result.extra ≡ work_at (frames_in (table_of c.args.rows.now c.args.prepared.now) c.args.part.now) c.loop-work.a c.args.n
    → let l = c.loop-work in
    let f : ℕ → ℕ = λ b. work_at (frames_in (table_of c.args.rows.now c.args.prepared.now) c.args.part.now) b c.args.n in
    (xs : List ℕ) → max l.work (greatest f (l.a ∷ xs)) ≡ max c.if-work-visited.work (greatest f xs)
step c work = greatest-more _ _ _ (greater c ∙ ap (max c.loop-work.work) work)

-- the alignment is one of them
among : (c : Joined-work-visited)
    → Mem c.if-work-visited.alignment (instants_in (frames_in (table_of c.args.rows.now c.args.prepared.now) c.args.part.now) c.args.end)
among c =
    let l = c.loop-work in
    elim c.if-work-visited.branch [ then-work-visited t ↦ rw t.alignment-is l.invariant.1 | else-work-visited t ↦ rw t.alignment-is l.invariant.3 ]

pub returns-then-end-a : goal.returns-then-end-a
unfolding greatest
returns-then-end-a c =
    let v = c.visit-v.ensures in
    let l = c.loop-work in
    let none = ended-none _ _ _ v.next c.if-end-a.true in
    let most = sym (max-zero _) ∙ walk_end _ _ _ _ _ l.invariant.0 (step (goal.at.returns-then-end-a c).Joined-work-visited (visits (goal.at.returns-then-end-a c).After-visit-v).0) none in
    let all = sym (add-zero _) ∙ walk_end _ _ _ _ _ l.invariant.6 (length_more l.count l.a) none in
    record { among = or-empty (among (goal.at.returns-then-end-a c).Joined-work-visited); work_value = most; count = all ∙ ap length (sym (visits-are _ _)); small = (omega (arith, l.invariant.2, greater (goal.at.returns-then-end-a c).Joined-work-visited, (visits (goal.at.returns-then-end-a c).After-visit-v).1), omega (arith, l.invariant.7, l.invariant.0.inside, c.requires.end_bound.0)) }

-- the next alignment
found : (c : Else-end-a)
    → let l = c.loop-work in
    least (is_instant (frames_in (table_of c.args.rows.now c.args.prepared.now) c.args.part.now)) (c.args.end - (l.a + 1)) (l.a + 1) ≡ Some (l.a + c.visit-v.result.gap)
found c = ended_at _ _ _ c.visit-v.ensures.next c.if-end-a.false

pub loop-work-smaller : goal.loop-work-smaller
loop-work-smaller c = walk-less _ _ _ _ _ c.loop-work.invariant.0 (found (goal.at.loop-work-smaller c).Else-end-a)

pub loop-work-preserved : goal.loop-work-preserved
loop-work-preserved c =
    let v = c.visit-v.ensures in
    let l = c.loop-work in
    let last : l.a ≡ l.a + c.visit-v.result.gap - c.visit-v.result.gap = omega arith in (
      walk_more _ _ _ _ _ l.invariant.0 (step (goal.at.loop-work-preserved c).Joined-work-visited (visits (goal.at.loop-work-preserved c).After-visit-v).0) (found (goal.at.loop-work-preserved c).Else-end-a),
      keep-found _ _ _ refl (found (goal.at.loop-work-preserved c).Else-end-a),
      omega (arith, l.invariant.2, greater (goal.at.loop-work-preserved c).Joined-work-visited, (visits (goal.at.loop-work-preserved c).After-visit-v).1),
      among (goal.at.loop-work-preserved c).Joined-work-visited,
      omega arith,
      rw (← last) (noted-next c.requires.fine_part (l.a + 1) c.args.end (found (goal.at.loop-work-preserved c).Else-end-a) l.a v.waits),
      walk_more _ _ _ _ _ l.invariant.6 (length_more l.count l.a) (found (goal.at.loop-work-preserved c).Else-end-a),
      omega (arith, l.invariant.7, (least-within _ _ (found (goal.at.loop-work-preserved c).Else-end-a)).0),
    )
