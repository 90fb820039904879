-- What the searches for the bounds need: the number of a group's alignments, the greatest value over a group's alignments as a loop finds it,
-- and the choices of a search that fixes one group more.
use Prim.Native.Nat.{ℕ, suc, ◌+◌, ◌-◌, ◌%◌, ◌≤◌, ◌<◌, max}
use Rattle.std.specs.Prelude.{◌≡◌, Bool, cond, ◌||◌, ◌≢◌, eqb, ltb, length, set, Option, Some, None, is_none}
use Rattle.std.proofs.Math.Path.{refl, ap}
use Rattle.std.proofs.Common.{sym, subst, ◌∙◌, eqb-true, eq-eqb, ne_eqb, le-leb, lt-ltb, le-ltb, ltb-true, ltb-false, length-set}
use mathlib.Core.List.Memᴰ
use mathlib.Core.List.{List, [], ◌∷◌, Memᴰ as Mem}
use Rattle.std.proofs.Math.Bool.{true, false}
use Rattle.std.proofs.Math.Nat.{sub-zero}
use native.Mathlib.Omega.{arith}
use Rattle.std.proofs.Math.Numerals.{add-one}
use Rattle.std.proofs.lemmas.Bool.{eqb-false, lt-leb}
use Rattle.std.proofs.Math.Dec.{T}
use Rattle.arith.specs.Lists.{greatest, exists, keep, range}
use Rattle.arith.specs.Least.{least, or_zero}
use Rattle.arith.specs.Laws.Tests.{same_test, by-test}
use Rattle.arith.specs.Laws.Members.{of_range, exists-mem, of-exists}
use Rattle.arith.specs.Laws.Least.{least-within}
use Rattle.arith.specs.Laws.Sums.{le-greatest}
use Rattle.arith.specs.Laws.Walks.{Walk, greatest-more, walk_more, walk_end, keep-next, keep-end}
use Rattle.bus_model.specs.declared.Frame.{Frame}
use Rattle.bus_model.specs.declared.Faults.{Faults}
use Rattle.bus_model.specs.declared.Choice.{Choice}
use Rattle.bus_model.specs.declared.Choice.TheVariants.{Fixed, Any}
use Rattle.bus_model.specs.Frame.{row}
use Rattle.bus_model.specs.Valid.{ValidFrame, Valid}
use Rattle.bus_model.specs.Bounds.{groups, phase, alignments, or_empty, choice_of, own_group, scenarios, busy_window, scenario_response, approximate_bound}
use Rattle.bus_model.specs.Levels.{level_bound}
use Rattle.bus_model.specs.Judgement.{lacks_window, too_many_scenarios, deepest_level}
use Rattle.bus_model.proofs.Theory.Frames.{group-listed, self-ahead}
use Rattle.bus_model.proofs.Theory.Alignment.{phase-aligned, or-empty}
use Rattle.bus_model.specs.Theory.Work.{RefinedBy}
use Rattle.bus_model.proofs.Theory.Response.{window-refine, own-distance}
use Rattle.bus_model.proofs.Theory.Levels.{last_level, level-last, deepest-last, deepest-before}
use Rattle.bus_model.proofs.Theory.Judged.{has-windows}
use Rattle.bus_model.specs.Theory.Visits.{is_alignment}
use Rattle.bus_model.specs.Theory.Refine.{free}
use Rattle.bus_model.proofs.Theory.Refine.{set_same, own-scenarios, own-kept, refines-group}
use Rattle.bus_model.specs.Theory.OpenGroups.{next_open, fixing_more}
use Rattle.bus_model.proofs.Theory.OpenGroups.{next-open, free_open, free-refined, more-refined, more-end, more-none, more-step, more_turn, more-pruned, more-window, approximate-more}
use Rattle.bus_model.proofs.Theory.LevelSearch.{level-found}
use Rattle.bus_model.specs.Theory.Turns.{turn}
use Rattle.bus_model.proofs.Theory.Turns.{first_turn, first-aligned, turned, turned-alignment, window-alike, alike-turn, visit-first, found-listed, first-listed}
use Rattle.workload.specs.Prepared.{FineTable, frames_in, hyper_in, part_of, table_of, Prepared, InTable}
use Rattle.alignment_walk.specs.Walk.{visits}
use Rattle.alignment_walk.proofs.Laws.Walk.{visits-factor}
use Rattle.response_time.specs.Load.{OwnFixed, WindowWithin, Reaches}
use Rattle.response_time.specs.Laws.Searches.{window-small}
use Rattle.response_time.specs.Laws.Within.{reach-finer}
use Rattle.bounds.specs.declared.Bound.TheVariants.{Level, TooMany, Precise}
use Rattle.bounds.specs.Find.{enough_for, decided_at}
use Rattle.bounds.specs.Search.{OwnOpen, Limits, Settles}

-- ---- the number of a group's alignments

-- It is how many the walk visits, an empty one counting 1.
pub counted : {rows p : List ℕ} {k : Frame} → Prepared rows p k → {i : ℕ} → i < 16
    → max (length (visits (frames_in (table_of rows p) (part_of p i)) (hyper_in p i))) 1 ≡ length (or_empty (alignments (table_of rows p) k (i + 1)))
counted {rows} {p} {k} g {i} less = rw (g.by-group.part i less, g.by-group.hyper i less, add-one i) (visits-factor (table_of rows p) k (suc i))

-- ---- a greatest value of which it is enough to know that it is above `enough`

settled-whole : (enough whole r : ℕ) → Settles enough whole r → enough < r → enough < whole
settled-whole enough whole r found above = omega arith

settled-above : (enough whole r : ℕ) → enough < whole → enough < r → Settles enough whole r
settled-above enough whole r over above = omega arith

reached : (most here later : ℕ) {n whole : ℕ} → n < max most here → max most (max here later) ≡ whole → n < whole
reached most here later over is = omega arith

-- Whether a greatest value that is not below `enough` exceeds it, what was found tells.
pub settled-test : (enough whole r : ℕ) → Settles enough (max enough whole) r → ltb enough r ≡ ltb enough whole
settled-test enough whole r found =
    by-test (ltb enough r)
    (λ t. t ∙ sym (lt-ltb enough whole (omega (arith, ltb-true enough r t))))
    (λ f. f ∙ sym (le-ltb enough whole (omega (arith, ltb-false enough r f))))

-- ---- the greatest value over a group's alignments, as a loop finds it

-- The loop stands at a: `most` is the greatest of `from` and the values f of the alignments before a. Those of the first turn are visited.
pub record Best (fs : List Frame) (k : Frame) (j : ℕ) (f : ℕ → ℕ) (from most a : ℕ) : Type 0 where
  pub walk : Walk (greatest f) max (is_alignment fs k j) (turn fs k j) (max from (greatest f (or_empty (first_turn fs k j)))) most a
  pub listed : Mem a (or_empty (alignments fs k j))

-- The loop stands at a, an alignment that it began with or the last before n: `most` and its value are the greatest of `from`, the values f of the
-- alignments before n, and that of the one that it began with.
pub record BestFrom (fs : List Frame) (k : Frame) (j : ℕ) (f : ℕ → ℕ) (from most a n : ℕ) : Type 0 where
  pub inside : n ≤ turn fs k j
  pub listed : Mem a (or_empty (alignments fs k j))
  pub is : max (max most (f a)) (greatest f (keep (is_alignment fs k j) (range n (turn fs k j - n)))) ≡ max from (greatest f (or_empty (first_turn fs k j)))

module _ (fs : List Frame) (k : Frame) (j : ℕ) (f : ℕ → ℕ) where
  abbrev passes : ℕ → Bool
  passes = is_alignment fs k j

  abbrev end : ℕ
  end = turn fs k j

  abbrev goal : ℕ → ℕ
  goal from = max from (greatest f (or_empty (first_turn fs k j)))

  -- It starts at the first.
  pub best-first : Valid fs → {from a : ℕ} (first : Option ℕ) → first ≡ least passes (end - 0) 0 → a ≡ or_zero first → Best fs k j f from from a
  best-first valid {from} first is at = rw at (record { walk = visit-first (greatest f) max (goal from) valid k j first is refl; listed = first-listed valid k j first is })

  module _ {from most next a : ℕ} (best : Best fs k j f from most a) (more : next ≡ max most (f a)) where
    -- It goes on to the next.
    pub best-more : Valid fs → {b : ℕ} → least passes (end - (a + 1)) (a + 1) ≡ Some b → Best fs k j f from next b
    best-more valid is = record { walk = walk_more (greatest f) max passes end (goal from) best.walk (greatest-more f most a more) is; listed = found-listed valid k j (a + 1) is }

    -- It ends after the last.
    pub best-end : least passes (end - (a + 1)) (a + 1) ≡ None → next ≡ max from (greatest f (or_empty (first_turn fs k j)))
    unfolding greatest
    best-end none = let ended = walk_end (greatest f) max passes end (goal from) best.walk (greatest-more f most a more) none in omega arith

  -- It may end where none of the values exceeds what it has.
  pub best-over : {from most a all : ℕ} → Best fs k j f from most a → from ≤ most → greatest f (or_empty (first_turn fs k j)) ≡ all → all ≤ most → most ≡ max from all
  best-over best low whole le = omega (arith, best.walk.is)

  -- It may end at a value above `enough`: the greatest is above it too.
  pub best-above : {from most a all enough r : ℕ} → Best fs k j f from most a → greatest f (or_empty (first_turn fs k j)) ≡ all → Settles enough (max most (f a)) r → enough < r → Settles enough (max from all) r
  unfolding greatest
  best-above {from} {most} {a} {all} {enough} {r} best whole found above =
      let here : enough < max most (f a) = settled-whole enough (max most (f a)) r found above in
      settled-above enough (max from all) r (reached most (f a) _ here (best.walk.is ∙ ap (max from) whole)) above

  -- ---- the same, where it begins with any one

  -- It starts at any, where there is one in the first turn.
  pub from_first : {from a b : ℕ} → Mem b (first_turn fs k j) → Mem a (or_empty (alignments fs k j)) → f a ≤ greatest f (or_empty (first_turn fs k j)) → BestFrom fs k j f from from a 0
  unfolding first_turn or_empty
  from_first {from} {a} {b} some listed low = record { inside = omega arith; listed = listed; is = rw sub-zero (go (keep (passes) (range 0 (turn fs k j))) some low) }
    where
      go : (xs : List ℕ) → Mem b xs → f a ≤ greatest f (or_empty xs) → max (max from (f a)) (greatest f xs) ≡ max from (greatest f (or_empty xs))
      go [] m le = absurd (Memᴰ.not-nil m)
      go (x ∷ xs) m le = omega arith

  module _ {from most next a n : ℕ} (best : BestFrom fs k j f from most a n) (more : next ≡ max most (f a)) where
    -- It goes on to the next.
    pub from_more : Valid fs → {b : ℕ} → least (passes) (end - n) n ≡ Some b → BestFrom fs k j f from next b (b + 1)
    unfolding greatest
    from_more valid {b} is =
        let (low, high, t) = least-within (passes) (end) is in
        let then = rw (keep-next (passes) (end) n b is) at best.is in
        record { inside = omega arith; listed = found-listed valid k j n is; is = rw add-one (omega arith) }

    -- It ends after the last.
    pub from-end : least (passes) (end - n) n ≡ None → next ≡ max from (greatest f (or_empty (first_turn fs k j)))
    unfolding greatest
    from-end none = let ended = rw (keep-end (passes) (end) n none) at best.is in omega arith

  -- It may end at a value above `enough`.
  pub from-above : {from most a n all enough r : ℕ} → BestFrom fs k j f from most a n → greatest f (or_empty (first_turn fs k j)) ≡ all → Settles enough (max most (f a)) r → enough < r → Settles enough (max from all) r
  from-above {from} {most} {a} {n} {all} {enough} {r} best whole found above =
      let here : enough < max most (f a) = settled-whole enough (max most (f a)) r found above in
      settled-above enough (max from all) r (omega (arith, best.is, whole)) above

-- ---- windows of the approximate bound

-- k's own group at alignment a, all others open
abbrev pub own_at : Frame → ℕ → List Choice
own_at k a = set free (k.group - 1) (Fixed a)

-- whether there is no window then
abbrev pub is_missing : Faults → List Frame → Frame → ℕ → Bool
is_missing faults fs k a = is_none (busy_window faults fs k (own_at k a))

-- Of the alignments from a on one lacks a window, if one does at all.
pub record Missing (faults : Faults) (fs : List Frame) (k : Frame) (a : ℕ) : Type 0 where
  pub walk : Walk (exists (is_missing faults fs k)) ◌||◌ (is_alignment fs k k.group) (turn fs k k.group) (lacks_window faults fs k) false a
  pub listed : Mem a (or_empty (alignments fs k k.group))

module _ {fs : List Frame} (valid : Valid fs) {n : ℕ} (inside : n < length fs) where
  abbrev f : Frame
  f = row fs n

  self : ValidFrame f
  self = valid.frame n inside

  -- A scenario that is refined has a window no longer.
  within-refined : {faults : Faults} {cs cs' : List Choice} → RefinedBy fs f cs cs' → {limit : ℕ} → WindowWithin faults fs f cs limit → WindowWithin faults fs f cs' limit
  within-refined {faults} {cs} {cs'} refines w =
      let (l, is, le) = window-refine valid inside faults cs cs' refines w.window w.is in
      record { window = l; is = is; within = omega (arith, w.within); small = w.small }

  -- The alignments of the first turn tell whether a window lacks.
  row-lacks : (faults : Faults) → exists (is_missing faults fs f) (or_empty (first_turn fs f f.group)) ≡ lacks_window faults fs f
  unfolding lacks_window
  row-lacks faults =
      same_test _ _
      (λ t.
      let (a, m, u) = of-exists _ (or_empty (first_turn fs f f.group)) t in
      exists-mem _ ((own-scenarios fs self).1 (a, first-aligned valid f f.group m, refl)) u)
      (λ t.
      let (cs, m, u) = of-exists _ (scenarios fs f (own_group f)) t in
      let (a, l, e) = (own-scenarios fs self).0 m in
      let same = window-alike fs f (own_at f (a % turn fs f f.group)) (own_at f a) (alike-turn valid inside free refl f.group (group-listed self) a) faults in
      exists-mem (is_missing faults fs f) {x = a % turn fs f f.group} (turned valid f f.group l) (rw same (rw e at u)))

  row-free : (faults : Faults) {l : ℕ} → busy_window faults fs f free ≡ Some l → lacks_window faults fs f ≡ false
  unfolding lacks_window
  row-free faults {l} is = none (lacks_window faults fs f) refl
    where
      none : (b : Bool) → lacks_window faults fs f ≡ b → b ≡ false
      none false e = refl
      none true e =
          let (cs, m, u) = of-exists _ (scenarios fs f (own_group f)) (subst T (sym e) tt) in
          let (a, l', same) = (own-scenarios fs self).0 m in
          let w = within-refined {cs = free} {cs' = cs} (rw same (refines-group fs f free (group-listed self) refl (free_open f.group (group-listed self)) l')) (record { window = l; is = is; within = omega arith; small = window-small faults fs f free is }) in
          absurd (rw w.is at u)

-- A window that is found is a limit.
pub found-limits : (faults : Faults) (fs : List Frame) (k : Frame) (cs : List Choice) (limit : Option ℕ) → limit ≡ busy_window faults fs k cs → Limits faults fs k cs limit
found-limits faults fs k cs (Some l) is = record { window = l; is = sym is; within = omega arith; small = window-small faults fs k cs (sym is) }
found-limits faults fs k cs None is = tt

module _ {fs : List Frame} (accepted : FineTable fs) {k : Frame} (table : InTable fs k) where
  valid-self : ValidFrame k
  valid-self = subst ValidFrame (sym table.is) (accepted.valid.frame table.at table.inside)

  pub own-group : (1 ≤ k.group) × (k.group ≤ 16)
  own-group = (valid-self.group-low, valid-self.group-high)

  -- Its own release is one of its group's alignments.
  own-aligned : Mem (phase k) (alignments fs k k.group)
  own-aligned = subst (λ (f : Frame). Mem (phase f) (alignments fs f f.group)) (sym table.is) (phase-aligned accepted.valid (row fs table.at) (row fs table.at).group (self-ahead fs table.at table.inside))

  -- Where there is a window with all groups open, none lacks.
  pub lacks-none : (faults : Faults) {l : ℕ} → busy_window faults fs k free ≡ Some l → lacks_window faults fs k ≡ false
  lacks-none faults = rw table.is (row-free accepted.valid table.inside faults)

  lacks-turn : (faults : Faults) → exists (is_missing faults fs k) (or_empty (first_turn fs k k.group)) ≡ lacks_window faults fs k
  lacks-turn faults = rw table.is (row-lacks accepted.valid table.inside faults)

  -- A loop looks at the first,
  pub missing-first : {faults : Faults} {a : ℕ} (first : Option ℕ) → first ≡ least (is_alignment fs k k.group) (turn fs k k.group - 0) 0 → a ≡ or_zero first → Missing faults fs k a
  missing-first {faults} first is at =
      rw at (record { walk = visit-first (exists (is_missing faults fs k)) ◌||◌ (lacks_window faults fs k) accepted.valid k k.group first is (lacks-turn faults); listed = first-listed accepted.valid k k.group first is })

  module _ {faults : Faults} {a : ℕ} (m : Missing faults fs k a) where
    -- stops where one lacks,
    pub missing-here : busy_window faults fs k (own_at k a) ≡ None → true ≡ lacks_window faults fs k
    unfolding exists
    missing-here none = rw none at m.walk.is

    module _ {l : ℕ} (has : busy_window faults fs k (own_at k a) ≡ Some l) where
      goes_by : (xs : List ℕ) → (false || exists (is_missing faults fs k) (a ∷ xs)) ≡ (false || exists (is_missing faults fs k) xs)
      unfolding exists
      goes_by xs = rw has

      -- goes on,
      pub missing-more : {b : ℕ} → least (is_alignment fs k k.group) (turn fs k k.group - (a + 1)) (a + 1) ≡ Some b → Missing faults fs k b
      missing-more is = record { walk = walk_more _ _ _ _ _ {next = false} m.walk goes_by is; listed = found-listed accepted.valid k k.group (a + 1) is }

      -- and ends where none does.
      pub missing-end : least (is_alignment fs k k.group) (turn fs k k.group - (a + 1)) (a + 1) ≡ None → false ≡ lacks_window faults fs k
      unfolding exists
      missing-end none = walk_end _ _ _ _ _ {next = false} m.walk goes_by none

  -- ---- the deepest level

  -- There are not too many scenarios just where it is the last.
  pub few-scenarios : deepest_level fs k ≡ last_level → too_many_scenarios fs k ≡ false
  few-scenarios last = by-test (too_many_scenarios fs k) (λ many. absurd (omega (arith, deepest-before fs valid-self many))) (λ few. few)

  pub many-scenarios : deepest_level fs k ≢ last_level → too_many_scenarios fs k ≡ true
  many-scenarios other = by-test (too_many_scenarios fs k) (λ many. many) (λ few. absurd (other (deepest-last fs valid-self few)))

  -- So it tells which of two answers is given.
  pub by-deepest : {A : Type 0} {m : ℕ} → m ≡ deepest_level fs k → (precise level : A) → cond (eqb m 15) precise level ≡ cond (too_many_scenarios fs k) level precise
  by-deepest {m = m} deepest precise level =
      by-test (eqb m 15)
      (λ last. rw (last, few-scenarios (sym deepest ∙ eqb-true m 15 last)))
      (λ other. rw (other, many-scenarios (λ last. eqb-false m 15 other (deepest ∙ last))))

  -- ---- one group more

  module _ (cs : List Choice) (long : length cs ≡ groups) where
    -- The next group is one of the groups.
    pub open-group : {j : ℕ} → next_open k cs ≡ Some j → (1 ≤ j) × (j ≤ 16)
    open-group is = let (low, high) = of_range 1 groups (next-open valid-self cs long is).0 in (low, omega arith)

    -- The greatest over its alignments is that with one group more.
    pub open_more : (faults : Faults) (m : ℕ) {j : ℕ} → next_open k cs ≡ Some j → greatest (λ a. fixing_more faults fs k m (set cs (j - 1) (Fixed a))) (or_empty (first_turn fs k j)) ≡ fixing_more faults fs k (suc m) cs
    open_more faults m {j} is =
        subst (λ (f : Frame). next_open f cs ≡ Some j → greatest (λ a. fixing_more faults fs f m (set cs (j - 1) (Fixed a))) (or_empty (first_turn fs f j)) ≡ fixing_more faults fs f (suc m) cs)
        (sym table.is) (λ e. sym (more_turn accepted.valid table.inside cs long faults m e)) is

    -- No more are fixed, or none is left.
    pub open-end : (faults : Faults) → fixing_more faults fs k 0 cs ≡ scenario_response faults fs k cs
    open-end faults = more-end valid-self cs long faults fs

    pub open_none : (faults : Faults) (m : ℕ) → next_open k cs ≡ None → fixing_more faults fs k m cs ≡ scenario_response faults fs k cs
    open_none faults m none = more-none valid-self cs long faults fs m none

    -- No scenario further on has a greater response.
    pub open-pruned : OwnFixed k cs → {faults : Faults} {best reach : ℕ} → Reaches faults fs k cs best reach → (m : ℕ) → fixing_more faults fs k m cs ≤ scenario_response faults fs k cs
    open-pruned own {faults} w m =
        subst (λ (f : Frame). (a : ℕ) × (choice_of cs f.group ≡ Fixed a) → busy_window faults fs f cs ≡ Some w.window → fixing_more faults fs f m cs ≤ scenario_response faults fs f cs)
        (sym table.is) (λ fixed is. more-pruned accepted.valid table.inside cs long fixed faults w.window is m) own w.is

    -- With an alignment of an open group the scenario is refined.
    finer : {j : ℕ} → Mem j (range 1 groups) → choice_of cs j ≡ Any → {a : ℕ} → Mem a (or_empty (alignments fs k j)) → RefinedBy fs k cs (set cs (j - 1) (Fixed a))
    finer listed any m = refines-group fs k cs listed long any m

    window-shorter : (faults : Faults) (cs' : List Choice) → RefinedBy fs k cs cs' → (l : ℕ) → busy_window faults fs k cs ≡ Some l → (l' : ℕ) × (busy_window faults fs k cs' ≡ Some l') × (l' ≤ l)
    window-shorter faults cs' refines l is =
        subst (λ (f : Frame). RefinedBy fs f cs cs' → busy_window faults fs f cs ≡ Some l → (l' : ℕ) × (busy_window faults fs f cs' ≡ Some l') × (l' ≤ l))
        (sym table.is) (λ r e. window-refine accepted.valid table.inside faults cs cs' r l e) refines is

    window-finer : {faults : Faults} {cs' : List Choice} → RefinedBy fs k cs cs' → {limit : ℕ} → WindowWithin faults fs k cs limit → WindowWithin faults fs k cs' limit
    window-finer {faults} {cs'} refines {limit} =
        subst (λ (f : Frame). RefinedBy fs f cs cs' → WindowWithin faults fs f cs limit → WindowWithin faults fs f cs' limit) (sym table.is) (λ r w. within-refined accepted.valid table.inside r w) refines

    -- What a search knows it still knows there.
    module _ {j : ℕ} (next : next_open k cs ≡ Some j) {a : ℕ} (m : Mem a (or_empty (alignments fs k j))) {cs' : List Choice} (is : cs' ≡ set cs (j - 1) (Fixed a)) (own : OwnFixed k cs) where
      refines : RefinedBy fs k cs cs'
      refines = let (listed, any) = next-open valid-self cs long next in rw is (finer listed any m)

      next-is : choice_of cs' k.group ≡ Fixed own.0
      next-is = own-kept fs k cs cs' refines valid-self own.1

      pub next-own : OwnFixed k cs'
      next-own = (own.0, next-is)

      pub next-reach : {faults : Faults} {best reach : ℕ} → Reaches faults fs k cs best reach → Reaches faults fs k cs' best reach
      next-reach {faults} r =
          let (l, window, shorter) = window-shorter faults cs' refines r.window r.is in
          reach-finer accepted.valid valid-self.period refines (own-distance fs k cs' own.0 next-is ∙ sym (own-distance fs k cs own.0 own.1)) r window shorter

    -- ---- k's own group is the next

    module _ (start : OwnOpen fs k cs) where
      pub own-next : next_open k cs ≡ Some k.group
      unfolding next_open
      own-next = rw start.any

      -- The loop over its alignments starts at the one at which k itself is released.
      pub own_first : (faults : Faults) (m : ℕ) {from : ℕ} → BestFrom fs k k.group (λ a. fixing_more faults fs k m (set cs (k.group - 1) (Fixed a))) from from (phase k) 0
      own_first faults m =
          let listed : Mem (phase k) (alignments fs k k.group) = own-aligned in
          from_first fs k k.group _ (turned-alignment accepted.valid k k.group listed) (or-empty listed)
          (subst (λ (n : ℕ). fixing_more faults fs k m (set cs (k.group - 1) (Fixed (phase k))) ≤ n) (sym (more-step valid-self cs long faults fs m own-next) ∙ sym (open_more faults m own-next))
          (le-greatest (λ a. fixing_more faults fs k m (set cs (k.group - 1) (Fixed a))) (or-empty listed)))

      module _ {a : ℕ} (m : Mem a (or_empty (alignments fs k k.group))) {cs' : List Choice} (is : cs' ≡ set cs (k.group - 1) (Fixed a)) where
        own-refines : RefinedBy fs k cs cs'
        own-refines = rw is (finer (group-listed valid-self) start.any m)

        own_is : choice_of cs' k.group ≡ Fixed a
        own_is = rw is (set_same cs (group-listed valid-self) a long)

        pub own-set : OwnFixed k cs'
        own-set = (a, own_is)

        -- A limit is one there,
        pub own-limits : (faults : Faults) (limit : Option ℕ) → Limits faults fs k cs limit → Limits faults fs k cs' limit
        own-limits faults (Some l) w = window-finer own-refines w
        own-limits faults None w = tt

        -- and there is a window, if none lacks.
        pub own-window : (faults : Faults) → lacks_window faults fs k ≡ false → (l : ℕ) × (busy_window faults fs k cs' ≡ Some l)
        own-window faults has =
            let long' : length cs' ≡ groups = rw is (length-set cs (k.group - 1) (Fixed a) ∙ long) in
            let free' : RefinedBy fs k free cs' = rw is (more-refined fs k cs start.refines long (group-listed valid-self) m) in
            subst (λ (f : Frame). lacks_window faults fs f ≡ false → RefinedBy fs f free cs' → choice_of cs' f.group ≡ Fixed a → (l : ℕ) × (busy_window faults fs f cs' ≡ Some l))
            (sym table.is) (λ windows refines own. more-window accepted.valid table.inside cs' long' faults (has-windows faults fs (row fs table.at) (λ t. subst T windows t)) refines own) has free' own_is

  -- All groups are open at first.
  pub free-start : OwnOpen fs k free
  free-start = record { refines = free-refined fs k; any = free_open k.group (group-listed valid-self) }

  -- With one group fixed the approximate bound is found, and with more that of a level.
  pub one-fixed : (faults : Faults) {r : ℕ} → r ≡ max 0 (fixing_more faults fs k 1 free) → r ≡ approximate_bound faults fs k
  one-fixed faults e = omega (arith, approximate-more fs valid-self faults)

  pub level-fixed : (faults : Faults) (m : ℕ) {r : ℕ} → r ≡ max 0 (fixing_more faults fs k (m + 1) free) → r ≡ level_bound faults fs k m
  level-fixed faults m e = omega (arith, ap (λ (n : ℕ). fixing_more faults fs k n free) (add-one m), level-found fs valid-self faults m)

  -- ---- what level m decides

  module _ (faults : Faults) (m : ℕ) (claim : Option ℕ) (rough : ℕ) where
    -- Without a claim nothing is searched.
    pub decided-unasked : enough_for m claim ≡ None → TooMany rough ≡ decided_at faults fs k m claim rough
    decided-unasked none =
        by-test (eqb m 15)
        (λ last. absurd (let z : ◌≡◌ {A = ℕ} 0 1 = cc (rw last at none) in omega arith))
        (λ other. rw (other, rw other at none))

    module _ {enough r : ℕ} (asked : enough_for m claim ≡ Some enough) (found : Settles enough (max 0 (fixing_more faults fs k (m + 1) free)) r) where
      -- A bound above the claim leaves it open; at the last level none is above what is enough.
      pub decided-above : r ≤ 4294967295 → enough < r → TooMany rough ≡ decided_at faults fs k m claim rough
      decided-above small above =
          by-test (eqb m 15)
          (λ last. absurd (let most : 4294967295 ≡ enough = cc (rw last at asked) in omega arith))
          (λ other. rw (other, rw other at asked, lt-leb (level_bound faults fs k m) enough over))
        where
          over : enough < level_bound faults fs k m
          over = subst (λ (n : ℕ). enough < n) (level-fixed faults m refl) (settled-whole enough (max 0 (fixing_more faults fs k (m + 1) free)) r found above)

      module _ (within : r ≤ enough) where
        bound-is : r ≡ level_bound faults fs k m
        bound-is = level-fixed faults m (omega arith)

        -- The bound of the last level is the precise one,
        pub decided-last : m ≡ 15 → Precise r ≡ decided_at faults fs k m claim rough
        decided-last last = rw (eq-eqb m 15 last) (ap Precise (bound-is ∙ ap (level_bound faults fs k) last ∙ level-last fs valid-self faults))

        -- and that of another meets the claim.
        pub decided-level : m ≢ 15 → Level r ≡ decided_at faults fs k m claim rough
        decided-level other = rw (ne_eqb m 15 other, rw (ne_eqb m 15 other) at asked, ← bound-is, le-leb r enough within)
