-- The walk visits every alignment of a group once, rising, and nothing else, and their number is the one in the scenario count (document 02,
-- request 3).
use Prim.Native.Nat.{ℕ, zero, suc, ◌+◌, ◌-◌, ◌%◌, ◌≤◌, ◌<◌, max}
use Rattle.std.specs.Prelude.{◌≡◌, refl, Bool, true, false, cond, T, length, Option, Some, None}
use Rattle.std.proofs.Common.{sym, ◌∙◌, arith, add-one}
use Rattle.std.proofs.Math.Path.{ap, fun_ext}
use mathlib.Core.List.{List, [], ◌∷◌, Memᴰ as Mem}
use Rattle.std.proofs.Math.Nat.{sub-zero}
use Rattle.arith.specs.Lists.{product, keep, range}
use Rattle.arith.specs.Laws.Least.{least-within, least-end}
use Rattle.arith.specs.Laws.Members.{mem-keep, of-keep, mem-range, of_range}
use Rattle.arith.specs.Laws.Walks.{keep-next, keep-end}
use Rattle.bus_model.specs.declared.Frame.{Frame}
use Rattle.bus_model.specs.Valid.{Valid}
use Rattle.bus_model.specs.Pattern.{of_group, hyperperiod}
use Rattle.bus_model.specs.Bounds.{groups, ahead, alignments, or_empty, scenario_count}
use Rattle.bus_model.proofs.Examples.Compute.{everything}
use Rattle.bus_model.specs.Theory.Turns.{turn}
use Rattle.bus_model.proofs.Theory.Turns.{first_turn, turned-alignment}
use Rattle.workload.specs.Prepared.{is_instant, instants_in}
use Rattle.alignment_walk.specs.Walk.{step, on_from, visits_from, visits, Rising}
use Rattle.alignment_walk.proofs.Laws.Parts.{length-or-empty}

-- Of frames released at 0, 4, 8, .. and at 1, 4, 7, .. it visits instants a tick apart both, and equal ones once.
visits-two : visits (record { group = 1; priority = 1; length = 10; period = 4; offset = 0 } ∷ record { group = 1; priority = 2; length = 10; period = 3; offset = 1 } ∷ []) 9 ≡ 0 ∷ 1 ∷ 4 ∷ 7 ∷ 8 ∷ []
unfolding everything visits_from on_from
visits-two = refl

-- From any tick on the walk visits the instants from there on, if it may take as many steps as there are ticks.
visits-from : (n : ℕ) (gs : List Frame) (end a : ℕ) → end - a ≤ n → visits_from n gs end a ≡ keep (is_instant gs) (range a (end - a))
unfolding visits_from on_from
visits-from zero gs end a few = sym (keep-end (is_instant gs) end a (least-end (is_instant gs) end a (omega arith)))
visits-from (suc n) gs end a few = go (step gs end a) refl (λ b le. visits-from n gs end b le)
  where
    go : (found : Option ℕ) → step gs end a ≡ found → ((b : ℕ) → end - b ≤ n → visits_from n gs end b ≡ keep (is_instant gs) (range b (end - b))) → on_from found (λ b. visits_from n gs end (b + 1)) ≡ keep (is_instant gs) (range a (end - a))
    go (Some b) is later =
        let (low, high, t) = least-within (is_instant gs) end is in
        let rest = rw add-one at (later (b + 1) (omega arith)) in
        rw add-one (ap (λ (xs : List ℕ). b ∷ xs) rest) ∙ sym (keep-next (is_instant gs) end a b is)
    go None is later = sym (keep-end (is_instant gs) end a is)

-- The whole walk visits the instants below the end, in this order,
pub visits-are : (gs : List Frame) (end : ℕ) → visits gs end ≡ instants_in gs end
visits-are gs end = rw sub-zero at (visits-from end gs end 0 (omega arith))

-- and it ends because a step answers none: more steps would visit nothing more.
pub visits-enough : (gs : List Frame) (end n : ℕ) → end ≤ n → visits_from n gs end 0 ≡ visits gs end
visits-enough gs end n enough = (rw sub-zero at (visits-from n gs end 0 (omega arith))) ∙ sym (visits-are gs end)

-- So it visits exactly the instants below the end,
pub visits-exactly : (gs : List Frame) (end a : ℕ) → (Mem a (visits gs end) → (a < end) × T (is_instant gs a)) × ((a < end) × T (is_instant gs a) → Mem a (visits gs end))
visits-exactly gs end a =
    rw (visits-are gs end) (
      λ m. let (l, t) = of-keep (is_instant gs) (range 0 end) m in (omega (arith, (of_range 0 end l).1), t),
      λ (less, t). mem-keep (is_instant gs) (mem-range 0 end a (omega arith) (omega arith)) t,
    )

-- rising, each once,
keep-rising : (p : ℕ → Bool) (k n : ℕ) → Rising (keep p (range n k))
unfolding keep range
keep-rising p zero n = tt
keep-rising p (suc k) n = go (p n) (keep-rising p k (suc n))
  where
    go : (b : Bool) → Rising (keep p (range (suc n) k)) → Rising (cond b (n ∷ keep p (range (suc n) k)) (keep p (range (suc n) k)))
    go true later = (λ y m. omega (arith, (of_range (suc n) k (of-keep p (range (suc n) k) m).0).0), later)
    go false later = later

pub visits-rising : (gs : List Frame) (end : ℕ) → Rising (visits gs end)
visits-rising gs end = rw (visits-are gs end) (keep-rising (is_instant gs) end 0)

module _ (fs : List Frame) (k : Frame) where
  -- and with the hyperperiod as the end the alignments of the group.
  pub visits-alignments : (j : ℕ) → visits (of_group (ahead fs k) j) (hyperperiod (of_group fs j)) ≡ alignments fs k j
  unfolding alignments
  visits-alignments j = visits-are (of_group (ahead fs k) j) (hyperperiod (of_group fs j))

  -- Their number, an empty one counting 1, is the group's factor in the scenario count: `count_alignments` computes it by this walk,
  pub visits-factor : (j : ℕ) → max (length (visits (of_group (ahead fs k) j) (hyperperiod (of_group fs j)))) 1 ≡ length (or_empty (alignments fs k j))
  visits-factor j = sym (length-or-empty _) ∙ ap (λ (xs : List ℕ). length (or_empty xs)) (visits-alignments j)

  -- and `scenario_count` the product of these numbers.
  pub visits-counted : product (λ j. max (length (visits (of_group (ahead fs k) j) (hyperperiod (of_group fs j)))) 1) (range 1 groups) ≡ scenario_count fs k
  unfolding scenario_count
  visits-counted = ap (λ (f : ℕ → ℕ). product f (range 1 groups)) (fun_ext visits-factor)

  -- The searches stop after the first turn, and visit there
  pub visits-turn : (j : ℕ) → visits (of_group (ahead fs k) j) (turn fs k j) ≡ first_turn fs k j
  unfolding first_turn
  visits-turn j = visits-are (of_group (ahead fs k) j) (turn fs k j)

  -- Nothing new comes after it: what the whole walk visits stands, modulo the turn, among these (`turned-alignment`, bus_model Theory/Turns), from where
  -- the group's frames are released at the same distances (`distance-turn`), so that the bounds over them are the same (`more_turn`, Theory/OpenGroups).
  pub visits-again : Valid fs → (j : ℕ) {a : ℕ} → Mem a (visits (of_group (ahead fs k) j) (hyperperiod (of_group fs j)))
      → Mem (a % turn fs k j) (visits (of_group (ahead fs k) j) (turn fs k j))
  visits-again valid j visited = rw (visits-turn j) (turned-alignment valid k j (rw (visits-alignments j) at visited))
