-- What the operation tells: the worst case by the first case that breaks a claim of a tick less than the bound, and that its response is
-- reached.
use Rattle.std.specs.Prelude.{ℕ, ◌-◌, ◌≤◌, ◌<◌, ◌/◌, ◌≡◌, Bool, ◌≢◌, T, Option, Some, None, Result, Ok, Err}
use Rattle.std.proofs.Math.Path.{refl, ap, subst}
use Rattle.std.proofs.Common.{sym, ◌∙◌, arith}
use Rattle.std.proofs.lemmas.Option.{none-some, same_Some}
use mathlib.Core.List.Memᴰ
use mathlib.Core.List.{List, [], ◌∷◌, Memᴰ as Mem}
use Rattle.std.proofs.Math.Bool.{true, false}
use borrow.Author.Tests.{lt-leb}
use Rattle.std.proofs.Math.ListN.{length}
use Rattle.table_checks.specs.declared.Refusal.{Refusal as TableRefusal}
use Rattle.arith.specs.Laws.Tests.{by-test}
use Rattle.bus_model.specs.declared.Frame.{Frame}
use Rattle.bus_model.specs.declared.Faults.{Faults}
use Rattle.bus_model.specs.declared.Faults.TheVariants.{Never}
use Rattle.bus_model.specs.declared.Case.{Case}
use Rattle.bus_model.specs.Frame.{row}
use Rattle.bus_model.specs.Pattern.{of_group, hyperperiod}
use Rattle.bus_model.specs.Bounds.{window_limit, alignments, or_empty, precise_bound}
use Rattle.bus_model.specs.Judgement.{lacks_window, too_many_scenarios, verdict, judge}
use Rattle.bus_model.specs.Case.{alignments_of, instance_of, first_case}
use Rattle.bus_model.specs.Worst.{last_row, all_early, worst_case, for_group, worst_starts, worst_instance, Responds}
use Rattle.bus_model.specs.Valid.{Valid}
use Rattle.bus_model.proofs.Theory.Frames.{group-listed}
use Rattle.bus_model.proofs.Theory.Alignment.{aligned-instant}
use Rattle.bus_model.proofs.Theory.Judged.{by-outcome}
use Rattle.bus_model.proofs.Theory.Reached.{bound_some, worst-exists, worst-number, worst-alignment, last-reached}
use Rattle.bus_model.proofs.Theory.LastRow.{early-of}
use Rattle.table_checks.specs.Columns.{columns}
use Rattle.table_checks.specs.Frames.{frame_at, frames_of}
use Rattle.table_checks.specs.Checks.{loaded_check, Loadable, Accepted}
use Rattle.table_checks.specs.Returns.{loaded_returns}
use Rattle.table_checks.proofs.Laws.Accepted.{length-frames, frame_row, loaded-both, accepted-limits, accepted-pattern, accepted-valid}
use Rattle.table_checks.proofs.Laws.LastFrame.{last-listed}
use Rattle.bounds.specs.declared.Bound.{Bound}
use Rattle.bounds.specs.declared.Bound.TheVariants.{NoWindow, Approximate, Level, TooMany, Precise}
use Rattle.bounds.specs.Find.{bound_for}
use Rattle.row_judgement.specs.declared.Refusal.{Refusal}
use Rattle.row_judgement.specs.Judge.{judge_checked, judge_row, bound_frame}
use Rattle.row_judgement.specs.Returns.{judged_returns, judge_returns}
use Rattle.row_judgement.specs.Laws.Returns.{judged-told}
use Rattle.worst_case.specs.declared.WorstCase.{WorstCase}
use Rattle.worst_case.specs.declared.LastFrame.{LastFrame}
use Rattle.worst_case.specs.Answer.{worst_bounded, worst_row, worst_checked, worst_of, judged_last}
use Rattle.worst_case.specs.Steps.{CaseWithin, case_shown}

-- ---- the numbers of the case

-- An alignment is below its group's hyperperiod, or the empty one.
alignment-small : (fs : List Frame) (k : Frame) (j : ℕ) {a : ℕ} → Mem a (or_empty (alignments fs k j)) → hyperperiod (of_group fs j) ≤ 1000000 → a ≤ 1000000
unfolding or_empty
alignment-small fs k j {a} m small = go (alignments fs k j) refl m
  where
    go : (als : List ℕ) → alignments fs k j ≡ als → Mem a (or_empty als) → a ≤ 1000000
    go [] e n = omega (arith, Memᴰ.eq_of_singleton n)
    go (b ∷ als) e n = omega (arith, (aligned-instant fs k j {a = a} (rw e n)).below)

-- a case's numbers
abbrev Within : Case → Frame → Type 0
Within c k = CaseWithin c.alignments c.instance k

module _ (ls : List (List ℕ)) (rows : List ℕ) (loadable : Loadable ls) (accepted : Accepted rows) (i : ℕ) (inside : i < length (frames_of ls rows)) where
  abbrev f : Frame
  f = row (frames_of ls rows) i

  valid : Valid (frames_of ls rows)
  valid = accepted-valid rows accepted ls loadable

  -- The case for a tick less than the bound has small numbers, where windows exist.
  worst-within : {c : Case} → worst_case (frames_of ls rows) f ≡ Some c → ¬ T (lacks_window Never (frames_of ls rows) f) → Within c f
  unfolding frame_at window_limit alignments_of instance_of
  worst-within is has =
      let h : i < length rows / columns = rw (length-frames ls rows) at inside in
      let limits = accepted-limits rows accepted i h in
      let own = valid.frame i inside in
      let (low, high) = rw is at (worst-number valid inside has) in
      record {
        group-low = own.group-low;
        group-high = own.group-high;
        period-low = own.period;
        period-high = rw (frame_row ls rows i h) limits.period-max;
        alignment = alignment-small (frames_of ls rows) f f.group (rw is at (worst-alignment valid inside has f.group (group-listed own))) (accepted-pattern rows accepted ls f.group own.group-low own.group-high).0;
        number-low = low;
        number-high = high;
      }

-- ---- the worst case by the bound that is found

-- where that is the precise one
unfoldable pub worst_decided : List Frame → Frame → Bound → Option WorstCase
worst_decided fs k (Precise b) = worst_bounded fs k (Ok b)
worst_decided fs k (Approximate b) = None
worst_decided fs k (Level b) = None
worst_decided fs k (TooMany b) = None
worst_decided fs k NoWindow = None

decided : (fs : List Frame) (i : ℕ) {bound : Bound} → bound ≡ bound_for Never fs (row fs i) None → worst_bounded fs (row fs i) (bound_frame fs i) ≡ worst_decided fs (row fs i) bound
unfolding worst_decided bound_for bound_frame worst_bounded
decided fs i {bound} is = go (lacks_window Never fs (row fs i)) (too_many_scenarios fs (row fs i)) refl refl ∙ sym (ap (worst_decided fs (row fs i)) is)
  where
    go : (lacks many : Bool) → lacks_window Never fs (row fs i) ≡ lacks → too_many_scenarios fs (row fs i) ≡ many
        → worst_bounded fs (row fs i) (bound_frame fs i) ≡ worst_decided fs (row fs i) (bound_for Never fs (row fs i) None)
    go true many l n = rw l
    go false true l n = rw (l, n)
    go false false l n = rw (l, n)

-- A precise bound is the frame's, and windows exist.
precise-found : (faults : Faults) (fs : List Frame) (k : Frame) {b : ℕ} → bound_for faults fs k None ≡ Precise b → (lacks_window faults fs k ≡ false) × (precise_bound faults fs k ≡ b)
unfolding bound_for
precise-found faults fs k {b} is = go (lacks_window faults fs k) (too_many_scenarios fs k) refl refl is
  where
    go : (lacks many : Bool) → lacks_window faults fs k ≡ lacks → too_many_scenarios fs k ≡ many → bound_for faults fs k None ≡ Precise b → (lacks_window faults fs k ≡ false) × (precise_bound faults fs k ≡ b)
    go true many l n e = absurd (let z : ◌≡◌ {A = ℕ} 0 1 = cc (rw l at e) in omega arith)
    go false true l n e = absurd (let z : ◌≡◌ {A = ℕ} 0 1 = cc (rw (l, n) at e) in omega arith)
    go false false l n e = (l, cc (rw (l, n) at e))

-- The case for a tick less than the precise bound shows the worst case.
shown-worst : (fs : List Frame) (k : Frame) (b : ℕ) {c : Case} → worst_case fs k ≡ Some c → Some (case_shown c.alignments c.instance k b) ≡ worst_bounded fs k (Ok b)
unfolding case_shown worst_bounded worst_starts worst_instance alignments_of instance_of
shown-worst fs k b is = rw is

module _ (ls : List (List ℕ)) (rows : List ℕ) (i : ℕ) {faults : Faults} {fs : List Frame} {k : Frame} (table : fs ≡ frames_of ls rows) (is : (k ≡ row (frames_of ls rows) i) × (faults ≡ Never)) {bound : Bound}
    (found : bound ≡ bound_for faults fs k None)
  where
    -- the worst case that the row shows
    abbrev due : Option WorstCase
    due = worst_bounded (frames_of ls rows) (row (frames_of ls rows) i) (bound_frame (frames_of ls rows) i)

    found-is : bound ≡ bound_for Never (frames_of ls rows) (row (frames_of ls rows) i) None
    found-is = found ∙ ap (λ (p : Faults). bound_for p fs k None) is.1 ∙ ap (λ (gs : List Frame). bound_for Never gs k None) table ∙ ap (λ (g : Frame). bound_for Never (frames_of ls rows) g None) is.0

    -- It is by the bound.
    pub due-decided : worst_decided (frames_of ls rows) (row (frames_of ls rows) i) bound ≡ due
    due-decided = sym (decided (frames_of ls rows) i found-is)

    -- Without a precise one none is shown.
    pub none-due : ((b : ℕ) → bound ≡ Precise b → ⊥) → None ≡ due
    unfolding worst_decided
    none-due other = go bound refl ∙ due-decided
      where
        go : (x : Bound) → bound ≡ x → None ≡ worst_decided (frames_of ls rows) (row (frames_of ls rows) i) bound
        go NoWindow e = rw e
        go (Approximate b) e = rw e
        go (Level b) e = rw e
        go (TooMany b) e = rw e
        go (Precise b) e = absurd (other b e)

    -- A precise bound:
    module _ {b : ℕ} (precise : bound ≡ Precise b) where
      -- windows exist;
      pub precise-windows : lacks_window faults fs k ≡ false
      precise-windows = (precise-found faults fs k (sym found ∙ precise)).0

      bound-is : precise_bound Never (frames_of ls rows) (row (frames_of ls rows) i) ≡ b
      bound-is = (precise-found Never (frames_of ls rows) (row (frames_of ls rows) i) (sym found-is ∙ precise)).1

      -- the case is the first that breaks a claim of a tick less.
      pub first-is : {o : Option Case} → o ≡ first_case faults fs k (b - 1) → o ≡ worst_case (frames_of ls rows) (row (frames_of ls rows) i)
      unfolding worst_case
      first-is {o} first =
          first ∙ ap (λ (p : Faults). first_case p fs k (b - 1)) is.1 ∙ ap (λ (gs : List Frame). first_case Never gs k (b - 1)) table ∙ ap (λ (g : Frame). first_case Never (frames_of ls rows) g (b - 1)) is.0
          ∙ ap (λ (n : ℕ). first_case Never (frames_of ls rows) (row (frames_of ls rows) i) (n - 1)) (sym bound-is)

      pub precise-due : {c : Case} {w : WorstCase} → Some c ≡ first_case faults fs k (b - 1) → w ≡ case_shown c.alignments c.instance k b → Some w ≡ due
      unfolding worst_decided
      precise-due {c} first shows =
          ap Some shows
          ∙ ap (λ (g : Frame). Some (case_shown c.alignments c.instance g b)) is.0
          ∙ shown-worst (frames_of ls rows) (row (frames_of ls rows) i) b (sym (first-is first))
          ∙ ap (worst_decided (frames_of ls rows) (row (frames_of ls rows) i)) (sym precise)
          ∙ due-decided

      module _ (loadable : Loadable ls) (accepted : Accepted rows) (inside : i < length (frames_of ls rows)) where
        has : ¬ T (lacks_window Never (frames_of ls rows) (row (frames_of ls rows) i))
        has t = subst T (precise-found Never (frames_of ls rows) (row (frames_of ls rows) i) (sym found-is ∙ precise)).0 t

        -- It is not 0, and the case exists and has small numbers.
        pub precise-some : 1 ≤ b
        precise-some = rw bound-is at (bound_some (accepted-valid rows accepted ls loadable) inside has)

        pub precise-exists : None ≡ first_case faults fs k (b - 1) → ⊥
        precise-exists none = let (c, e) = worst-exists (accepted-valid rows accepted ls loadable) inside has in none-some c (first-is none ∙ e)

        pub precise-within : {c : Case} → Some c ≡ first_case faults fs k (b - 1) → CaseWithin c.alignments c.instance k
        precise-within {c} first = subst (Within c) (sym is.0) (worst-within ls rows loadable accepted i inside (sym (first-is first)) has)

-- ---- what is told

-- Where windows exist, the verdict is not 11.
windowed-verdict : (fs : List Frame) (k : Frame) (claim : ℕ) → ¬ T (lacks_window Never fs k) → verdict (judge Never fs k claim).outcome ≢ 11
unfolding judge
windowed-verdict fs k claim has =
    by-outcome (λ o. verdict o ≢ 11) Never fs k claim (λ lacks. absurd (has lacks)) (λ w le e. omega arith) (λ w exceeds many le e. omega arith)
    (λ w exceeds many less e. omega arith) (λ w exceeds few le e. omega arith) (λ w exceeds few less e. omega arith)

-- A response that is shown is reached.
abbrev Reached : List (List ℕ) → List ℕ → Option WorstCase → Type 0
Reached ls rows o = (w : WorstCase) → o ≡ Some w → Responds (frames_of ls rows) (for_group w.starts) (last_row (frames_of ls rows)) w.instance w.response

none-reached : (ls : List (List ℕ)) (rows : List ℕ) → Reached ls rows None
none-reached ls rows w e = absurd (none-some w e)

module _ (ls : List (List ℕ)) (rows : List ℕ) where
  abbrev gs : List Frame
  gs = frames_of ls rows

  abbrev r : ℕ
  r = last_row gs

  -- what the theory says of an accepted table with early offsets, where windows exist
  reached : Loadable ls → Accepted rows → all_early gs ≡ true → lacks_window Never gs (row gs r) ≡ false
      → Responds gs (for_group (worst_starts gs (row gs r))) r (worst_instance gs (row gs r)) (precise_bound Never gs (row gs r))
  reached loadable accepted early windows =
      let (inside, last) = last-listed rows accepted ls in
      last-reached (accepted-valid rows accepted ls loadable) inside (early-of gs early) last 0 (windowed-verdict gs (row gs r) 0 (λ t. subst T windows t))

  bounded-reached : Loadable ls → Accepted rows → all_early gs ≡ true → Reached ls rows (worst_bounded gs (row gs r) (bound_frame gs r))
  unfolding bound_frame worst_bounded
  bounded-reached loadable accepted early = go (lacks_window Never gs (row gs r)) (too_many_scenarios gs (row gs r)) refl refl
    where
      go : (lacks many : Bool) → lacks_window Never gs (row gs r) ≡ lacks → too_many_scenarios gs (row gs r) ≡ many → Reached ls rows (worst_bounded gs (row gs r) (bound_frame gs r))
      go true many l n = rw l (none-reached ls rows)
      go false true l n = rw (l, n) (none-reached ls rows)
      go false false l n =
          rw (l, n) (λ w e. subst (λ (x : WorstCase). Responds gs (for_group x.starts) r x.instance x.response) (same_Some _ _ e) (reached loadable accepted early l))

  worst-reached : Reached ls rows (worst_checked (loaded_check ls rows) gs)
  unfolding worst_checked worst_row
  worst-reached = go (loaded_check ls rows) refl
    where
      go : (checked : Result (Unit {0}) TableRefusal) → loaded_check ls rows ≡ checked → Reached ls rows (worst_checked checked gs)
      go (Err x) e = none-reached ls rows
      go (Ok tt) e =
          let both = loaded-both ls rows e in
          by-test (all_early gs) (λ early. rw early (bounded-reached both.0 both.1 early)) (λ late. rw late (none-reached ls rows))

  -- What the operation answers tells all.
  pub worst-told : {w : LastFrame} → w ≡ worst_of ls rows
      → (w ≡ worst_of ls rows) × (Reached ls rows w.worst × (judged_returns w.judged ≡ judge_returns (loaded_returns ls rows) ls rows r))
  unfolding worst_of
  worst-told {w} is = (
    is,
    (subst (λ (x : LastFrame). Reached ls rows x.worst) (sym is) worst-reached, ap (λ (x : LastFrame). judged_returns x.judged) is ∙ (judged-told ls rows r refl).1.1.1),
  )

  -- A refused table, and an accepted one.
  pub worst-refused : {f : Refusal} {w : LastFrame} → judge_row ls rows r ≡ Err f → worst_checked (loaded_check ls rows) gs ≡ None
      → w ≡ record { judged = Err f; worst = None } → w ≡ worst_of ls rows
  unfolding worst_of
  worst-refused judged none is = is ∙ rw (judged, none)

  pub worst-accepted : loaded_check ls rows ≡ Ok tt → judged_last ls rows ≡ worst_of ls rows
  unfolding worst_of judged_last judge_row judge_checked worst_checked
  worst-accepted passed =
      let (inside, last) = last-listed rows (loaded-both ls rows passed).1 ls in
      let some : r < length rows / columns = rw (length-frames ls rows) at inside in
      rw (passed, lt-leb (length rows / columns) r some)
