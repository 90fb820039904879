-- A frame that is longer than its period has no busy window, and is judged so; nor has one under faults that cost no less than their gap.
-- The scenario that shows it has the frame released where the window opens.
use Rattle.std.specs.Prelude.{ℕ, zero, suc, ◌*◌, ◌≤◌, ◌<◌, ◌≡◌, T, pos, length, is_none}
use Rattle.std.proofs.Math.Path.{ap}
use mathlib.Core.List.{List, Memᴰ as Mem}
use Rattle.std.proofs.Common.{arith, mul-suc, mul_comm, eqb→eq}
use Rattle.std.proofs.Math.Nat.{zero-mul, mul-le-mul_left}
use Rattle.std.proofs.Math.Dec.{eqb_refl}
use Rattle.arith.specs.Releases.{releases_before}
use Rattle.arith.specs.Laws.Members.{exists-mem}
use Rattle.arith.specs.Laws.Tests.{cond_yes}
use Rattle.arith.specs.Laws.Releases.{counted, next-after}
use Rattle.bus_model.specs.Frame.{row}
use Rattle.bus_model.specs.Valid.{Valid}
use Rattle.bus_model.specs.Bounds.{phase, distance, demand, choice_of, scenarios, own_group, fault_time, fault_load, window_load}
use Rattle.bus_model.specs.Judgement.{lacks_window, windowed_outcome, outcome_of, bound_used, margin_of, judge}
use Rattle.bus_model.proofs.Theory.Frames.{group-listed, self-ahead}
use Rattle.bus_model.proofs.Theory.Alignment.{phase-aligned, phase-distance, or-empty}
use Rattle.bus_model.proofs.Theory.Work.{work-own}
use Rattle.bus_model.proofs.Theory.Response.{window-none}
use Rattle.bus_model.proofs.Theory.Scenarios.{scenario, chosen, chosen-listed, chosen-fixed}
use Rattle.bus_model.specs.declared.Frame.{Frame}
use Rattle.bus_model.specs.declared.Faults.{Faults}
use Rattle.bus_model.specs.declared.Faults.TheVariants.{Apart}
use Rattle.bus_model.specs.declared.Choice.{Choice}
use Rattle.bus_model.specs.declared.Choice.TheVariants.{Fixed}
use Rattle.bus_model.specs.declared.Outcome.{Outcome}
use Rattle.bus_model.specs.declared.Outcome.TheVariants.{NoWindow}

-- What comes at least every p ticks, and takes longer than p, takes longer than the time.
more-than-time : (p c l count : ℕ) → p < c → 1 ≤ l → l ≤ count * p → l < c * count
more-than-time p c l zero long low after = absurd (omega (arith, zero-mul p))
more-than-time p c l (suc m) long low after = omega (arith, mul-suc (suc m) p, mul-le-mul_left (suc m) long, mul_comm (suc m) c)

module _ {fs : List Frame} (valid : Valid fs) {k : ℕ} (inside : k < length fs) where
  abbrev f : Frame
  f = row fs k

  -- the scenario in which the frame is released where its window opens
  abbrev at_once : List Choice
  at_once = scenario (chosen (own_group f) (λ j. phase f))

  -- It is one of those of the approximate bound.
  at-once-listed : Mem at_once (scenarios fs f (own_group f))
  at-once-listed = chosen-listed fs f (own_group f) (λ j. phase f) (λ j t. rw (eqb→eq j f.group t) (or-empty (phase-aligned valid f f.group (self-ahead fs k inside))))

  -- It has that alignment.
  at-once-own : choice_of at_once f.group ≡ Fixed (phase f)
  at-once-own = chosen-fixed (own_group f) (λ j. phase f) f.group (group-listed (valid.frame k inside)) (eqb_refl f.group)

  -- A frame that is longer than its period has no window.
  pub overloaded : (faults : Faults) → f.period < f.length → T (lacks_window faults fs f)
  unfolding lacks_window window_load demand
  overloaded faults long =
      let lacks = window-none faults fs f at_once (λ l low.
      let share = work-own valid inside (phase f) l at_once at-once-own in
      let after = next-after (distance f (phase f)) (valid.frame k inside).period l in
      let count = releases_before (distance f (phase f)) f.period l in
      omega (arith, more-than-time f.period f.length l count long low (omega (arith, phase-distance (valid.frame k inside))))) in
      exists-mem _ at-once-listed (rw (lacks, is_none) tt)

  -- So has one under faults that cost no less than their gap.
  pub faults-overload : (g : ℕ) → 1 ≤ g → g ≤ fault_time fs f → T (lacks_window (Apart g) fs f)
  unfolding lacks_window window_load fault_load demand
  faults-overload g some dear =
      let lacks = window-none (Apart g) fs f at_once (λ l low.
      let share = work-own valid inside (phase f) l at_once at-once-own in
      let first = (counted (distance f (phase f)) (valid.frame k inside).period l 0).1 (omega (arith, phase-distance (valid.frame k inside), zero-mul f.period)) in
      let own = mul-le-mul_left f.length first in
      let faults = mul-le-mul_left (releases_before 0 g l) dear in
      omega (arith, next-after 0 some l, (valid.frame k inside).length)) in
      exists-mem _ at-once-listed (rw (lacks, is_none) tt)

  -- So it is judged to have none.
  pub overloaded-judged : (faults : Faults) (claim : ℕ) → f.period < f.length → judge faults fs f claim ≡ record { outcome = NoWindow; bound = 0; margin = pos 0 }
  unfolding judge outcome_of bound_used margin_of
  overloaded-judged faults claim long =
      ap (λ (o : Outcome). record { outcome = o; bound = bound_used o; margin = margin_of claim o })
      (cond_yes (lacks_window faults fs f) NoWindow (windowed_outcome faults fs f claim) (overloaded faults long))
