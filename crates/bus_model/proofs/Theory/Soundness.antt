-- The bounds are sound: in every schedule of a valid table, a frame whose bound is within its claim meets the claim.
-- One theorem for any set of fixed groups, and its two ends, the approximate and the precise bound.
use Prim.Native.Nat.{ℕ, suc, ◌+◌, ◌-◌, ◌*◌, ◌≤◌, ◌<◌}
use Rattle.std.specs.Prelude.{◌≡◌, List, Bool, length, Some}
use Rattle.std.proofs.Math.Path.{refl, ap}
use Rattle.std.proofs.Math.Bool.{true, false}
use native.Mathlib.Omega.{arith}
use Rattle.std.proofs.Common.{le_trans}
use Rattle.std.proofs.Math.Nat.{mul-le-mul_left}
use Rattle.std.proofs.Math.Dec.{T, eqb_refl}
use Rattle.arith.specs.Lists.{sum}
use Rattle.arith.specs.Least.{or_zero}
use Rattle.arith.specs.Laws.Sums.{le-greatest}
use Rattle.arith.specs.Laws.Releases.{count-le}
use Rattle.bus_model.specs.Frame.{row}
use Rattle.bus_model.specs.Valid.{ValidFrame, Valid, ValidFaults}
use Rattle.bus_model.specs.Release.{release}
use Rattle.bus_model.specs.Bus.{Transmission, Finished, MeetsClaim}
use Rattle.bus_model.specs.Bounds.{ahead, better, alignments, distance, choice_of, work, own_group, every_group, window_load, busy_window, delay_load, queueing_delay, instance_response, scenario_response, bound_of, approximate_bound, precise_bound}
use Rattle.bus_model.proofs.Theory.Rows.{ahead-sum}
use Rattle.bus_model.proofs.Theory.Arrivals.{released_by, arrived}
use Rattle.bus_model.proofs.Theory.BusyWindow.{Window, busy-window}
use Rattle.bus_model.proofs.Theory.Frames.{better-ahead, self-ahead, group-listed}
use Rattle.bus_model.proofs.Theory.Alignment.{Aligned, Stands, aligned}
use Rattle.bus_model.specs.Theory.Work.{Allows}
use Rattle.bus_model.proofs.Theory.Work.{fault-mono}
use Rattle.bus_model.proofs.Theory.Response.{window-at, delay-at, own-distance, delay-within, instance-response}
use Rattle.bus_model.proofs.Theory.Scenarios.{scenario, scenario-choice, where_fixed, chosen, chosen-listed, chosen-fixed, ◌⊆◌, Windowed, windows-refine}
use Rattle.bus_model.proofs.Theory.Cover.{Agrees, covers}
use Rattle.bus_model.specs.declared.Frame.{Frame}
use Rattle.bus_model.specs.declared.Faults.{Faults}
use Rattle.bus_model.specs.declared.Choice.{Choice}
use Rattle.bus_model.specs.declared.Choice.TheVariants.{Fixed}

module _ {fs : List Frame} (valid : Valid fs) {k : ℕ} (inside : k < length fs) where
  -- the frame in question
  abbrev f : Frame
  f = row fs k

  -- the frame is valid
  self : ValidFrame f
  self = valid.frame k inside

  -- ---- one instance of the frame

  -- Instance n and its busy window, which opens at the alignments α; a scenario that agrees with these, and its window.
  module _
      (faults : Faults) (starts : ℕ → ℕ) (T : ℕ) (xs : List Transmission) (n : ℕ) (win : Window faults fs starts T xs k n)
      (α : ℕ → ℕ) (stands : Stands fs f starts win.t1 α)
      (cs : List Choice) (agrees : Agrees fs f α cs) (own : choice_of cs f.group ≡ Fixed (α f.group)) (l : ℕ) (window : busy_window faults fs f cs ≡ Some l)
    where
      -- the frame's own distance
      abbrev d : ℕ
      d = distance f (α f.group)

      -- how many instances of the frame are released in the window before it
      abbrev q : ℕ
      q = n - released_by starts f win.t1

      -- It is not released before the window.
      released-le : released_by starts f win.t1 ≤ n
      unfolding release released_by
      released-le = count-le (starts f.group + f.offset) self.period win.t1 n win.early

      -- It is released where the scenario has it, or later.
      placed : win.t1 + (d + q * f.period) ≤ release starts f n
      unfolding release
      placed =
          let after = stands f.group f (self-ahead fs k inside) in
          let split : n * f.period ≡ (q + released_by starts f win.t1) * f.period = ap (λ (m : ℕ). m * f.period) (omega (arith, released-le)) in
          omega arith

      -- The frames ahead bring no more than the scenario's work.
      ahead-covers : (x : ℕ) → sum (λ g. g.length * arrived starts g win.t1 x) (ahead fs f) ≤ work fs f (ahead fs f) cs x
      ahead-covers = covers valid f starts win.t1 α stands cs agrees (λ g m. m)

      -- Nor do the better ones.
      better-covers : (x : ℕ) → sum (λ g. g.length * arrived starts g win.t1 x) (better fs f) ≤ work fs f (better fs f) cs x
      better-covers = covers valid f starts win.t1 α stands cs agrees (better-ahead fs f)

      -- It is released within the scenario's window: otherwise the bus would be busy for longer than that.
      within : d + q * f.period < l
      unfolding window_load
      within =
          let (low, high, fits) = window-at faults fs f cs l window in
          let late : ¬ (l ≤ d + q * f.period) = λ after. omega (arith, win.busy l low (omega (arith, placed)), ahead-covers l) in
          omega arith

      -- Before its release no more instances of the frame arrive than go before it.
      fewer : (w : ℕ) → win.t1 + w < release starts f n → arrived starts f win.t1 (suc w) ≤ q
      unfolding arrived release released_by
      fewer w after = let few = count-le (starts f.group + f.offset) self.period (win.t1 + suc w) n (omega arith) in omega arith

      -- It is released when its delay ends: otherwise the bus would be busy beyond that.
      in-time : (w : ℕ) → queueing_delay faults fs f cs q ≡ Some w → release starts f n ≤ win.t1 + w
      unfolding delay_load
      in-time w e = let early : ¬ (win.t1 + w < release starts f n) = too-late in omega arith
        where
          too-late : ¬ (win.t1 + w < release starts f n)
          too-late after =
              let longer = win.busy (suc w) (omega arith) (omega arith) in
              let next : suc w ≤ w + f.length = omega (arith, self.length) in
              let cut = fault-mono next faults fs f in
              let all = ahead-sum valid inside (λ g. g.length * arrived starts g win.t1 (suc w)) in
              omega (arith, mul-le-mul_left f.length (fewer w after), better-covers (suc w), delay-at faults fs f cs q w e)

      -- It is finished when the claim runs out.
      finished : (claim : ℕ) → scenario_response faults fs f cs ≤ claim → release starts f n + claim ≤ T → Finished xs k n (release starts f n + claim)
      unfolding instance_response delay_load
      finished claim bound before =
          let (w, e, le) = delay-within valid inside faults cs (α f.group) own l window q within in
          let response = instance-response valid inside faults cs (α f.group) own l window q within in
          let fits = delay-at faults fs f cs q w e in
          let ends : w + f.length ≤ d + q * f.period + claim = omega (arith, ap or_zero e, own-distance fs f cs (α f.group) own) in
          let b = win.begins w (omega (arith, better-covers (suc w))) (in-time w e) (omega (arith, placed, self.length)) in
          record { sent = b.sent; listed = b.listed; frame = b.frame; instance = b.instance; whole = b.whole; ended = omega (arith, b, placed) }

  -- ---- the bounds

  -- The scenario that takes these alignments agrees with them.
  chosen-agrees : (fixes : ℕ → Bool) (α : ℕ → ℕ) → Aligned fs f α → Agrees fs f α (scenario (chosen fixes α))
  unfolding where_fixed Allows
  chosen-agrees fixes α real j l = rw (scenario-choice (chosen fixes α) j l) (go (fixes j))
    where
      go : (b : Bool) → Allows (alignments fs f j) (where_fixed b (Fixed (α j))) (Fixed (α j))
      go true = refl
      go false = real j

  -- A claim that is not below a bound is met, if the bound fixes the frame's own group and the approximate scenarios have windows.
  pub sound : (faults : Faults) → ValidFaults faults → (fixes : ℕ → Bool) → own_group f ⊆ fixes → Windowed faults fs f (own_group f) → (claim : ℕ) → bound_of faults fs f fixes ≤ claim → MeetsClaim faults fs k claim
  unfolding MeetsClaim bound_of
  sound faults fine fixes more windows claim bound starts T xs schedule n before =
      let win = busy-window valid inside fine schedule n in
      let (α, real, stands) = aligned fs valid f starts win.t1 in
      let cs = scenario (chosen fixes α) in
      let listed = chosen-listed fs f fixes α (λ j t. real j) in
      let own = chosen-fixed fixes α f.group (group-listed self) (more f.group (eqb_refl f.group)) in
      let (l, window) = windows-refine valid inside faults (own_group f) fixes more windows cs listed in
      finished faults starts T xs n win α stands cs (chosen-agrees fixes α real) own l window claim (le_trans (le-greatest (scenario_response faults fs f) listed) bound) before

  -- The approximate bound is sound.
  pub sound-approximate : (faults : Faults) → ValidFaults faults → Windowed faults fs f (own_group f) → (claim : ℕ) → approximate_bound faults fs f ≤ claim → MeetsClaim faults fs k claim
  sound-approximate faults fine = sound faults fine (own_group f) (λ j t. t)

  -- The precise bound is sound where the approximate bound has windows.
  pub sound-precise : (faults : Faults) → ValidFaults faults → Windowed faults fs f (own_group f) → (claim : ℕ) → precise_bound faults fs f ≤ claim → MeetsClaim faults fs k claim
  sound-precise faults fine = sound faults fine every_group (λ j t. tt)
