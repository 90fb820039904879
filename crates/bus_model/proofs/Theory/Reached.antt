-- The last frame's precise bound is reached: some schedule without a tick to spare has it as a response time.
-- So no smaller claim is met in all schedules.
use Prim.Native.Nat.{ℕ, suc, ◌+◌, ◌-◌, ◌*◌, ◌≤◌, ◌<◌}
use Rattle.std.specs.Prelude.{◌≡◌, true, ◌≢◌, ◌↔◌, length, get_or, Option, Some}
use Rattle.std.proofs.Math.Path.{refl, ap, ap₂}
use Rattle.std.proofs.Common.{sym, subst, ◌∙◌, le_refl}
use mathlib.Core.List.Memᴰ
use mathlib.Core.List.Memᴰ.{head as here}
use mathlib.Core.List.{List, map, Memᴰ as Mem}
use native.Mathlib.Omega.{arith}
use Rattle.std.proofs.Math.Nat.{le-mul_of_pos_right}
use Rattle.std.proofs.Math.Dec.{T, ltb→lt}
use Rattle.std.proofs.lemmas.List.{length-map}
use Rattle.std.proofs.Math.ListN.{get_or-map}
use Rattle.arith.specs.Lists.{range}
use Rattle.arith.specs.Least.{or_zero}
use Rattle.arith.specs.Releases.{releases_before}
use Rattle.arith.specs.Laws.Members.{of-keep, place_of, of_range, mem-range, mem-get_d, get_d-within}
use Rattle.arith.specs.Laws.Sums.{le-greatest, greatest-le}
use Rattle.arith.specs.Laws.Least.{least_at}
use Rattle.arith.specs.Laws.Releases.{next-after}
use Rattle.bus_model.specs.Frame.{no_frame, row}
use Rattle.bus_model.specs.Valid.{ValidFrame, Valid, Early, ValidFaults}
use Rattle.bus_model.specs.Release.{release}
use Rattle.bus_model.specs.Bus.{Transmission, Schedule, MeetsClaim}
use Rattle.bus_model.specs.Bounds.{groups, window_limit, below, better, blocking, fault_load, is_below, alignments, distance, or_empty, choice_of, scenarios, every_group, busy_window, delay_load, instance_response, precise_bound}
use Rattle.bus_model.specs.Judgement.{lacks_window, verdict, judge}
use Rattle.bus_model.specs.Case.{alignments_of, instance_of, shown, first_case}
use Rattle.bus_model.specs.Worst.{RanksLast, worst_case, for_group, meeting_tick, starts_of, worst_starts, instance_from, worst_instance, Longest, Responds}
use Rattle.bus_model.proofs.Theory.Arrivals.{released_by}
use Rattle.bus_model.proofs.Theory.Frames.{group-listed, valid-frame, of-ahead, better-ahead}
use Rattle.bus_model.proofs.Theory.Response.{window-at, delay-least, delay-within, response-whole, listed-released}
use Rattle.bus_model.proofs.Theory.Scenarios.{Windowed, of-scenarios, scenarios-length, fixed-choice}
use Rattle.bus_model.proofs.Theory.Soundness.{sound-precise}
use Rattle.bus_model.proofs.Theory.Judged.{has-windows, not-lacking, precise-windows}
use Rattle.bus_model.proofs.Theory.Cases.{Exists, exceeds, count, exceeding-at, Shown, among-shown, case-exists}
use Rattle.bus_model.proofs.Theory.Existence.{longest-schedule}
use Rattle.bus_model.proofs.Theory.Elapsed.{start-after, elapsed, sent-fitting}
use Rattle.bus_model.proofs.Theory.Meeting.{next_le, work-arrives}
use Rattle.bus_model.specs.declared.Frame.{Frame}
use Rattle.bus_model.specs.declared.Case.{Case}
use Rattle.bus_model.specs.declared.Faults.TheVariants.{Never}
use Rattle.bus_model.specs.declared.Choice.{Choice}
use Rattle.bus_model.specs.declared.Choice.TheVariants.{Fixed, Any}

-- The alignment that is shown of a group is the one at which it is fixed.
shown-at : (cs : List Choice) (j : ℕ) {a : ℕ} → choice_of cs j ≡ Fixed a → for_group (map shown cs) j ≡ a
unfolding shown
shown-at cs j e = get_or-map shown cs (j - 1) Any ∙ ap shown e

-- A group starts as many ticks before the meeting tick as its alignment has, which is not later; place i is that of group i + 1.
module _ (als : List ℕ) (i : ℕ) (inside : i < length als) where
  pub start-at : get_or (starts_of als) i 0 ≡ meeting_tick als - get_or als i 0
  unfolding starts_of
  start-at =
      let before : ℕ → ℕ = λ a. meeting_tick als - a in
      get_d-within (map before als) i 0 (before 0) (rw (length-map als before) inside) ∙ get_or-map before als i 0

  pub alignment-before : get_or als i 0 ≤ meeting_tick als
  unfolding meeting_tick
  alignment-before = le-greatest (λ a. a) (mem-get_d als i 0 inside)

module _ {fs : List Frame} (valid : Valid fs) {k : ℕ} (inside : k < length fs) where
  abbrev f : Frame
  f = row fs k

  self : ValidFrame f
  self = valid.frame k inside

  -- ---- a scenario of the precise bound

  module _ (cs : List Choice) (m : Mem cs (scenarios fs f every_group)) where
    -- the alignment that is shown of a group is one of its alignments,
    shown-listed : (j : ℕ) → Mem j (range 1 groups) → Mem (for_group (map shown cs) j) (or_empty (alignments fs f j))
    shown-listed j l = let (a, n, e) = fixed-choice fs f j true tt (of-scenarios fs f every_group m j l) in rw (shown-at cs j e) n

    -- at which the group is fixed
    fixed : (j : ℕ) → Mem j (range 1 groups) → choice_of cs j ≡ Fixed (for_group (map shown cs) j)
    fixed j l = let (a, n, e) = fixed-choice fs f j true tt (of-scenarios fs f every_group m j l) in e ∙ ap Fixed (sym (shown-at cs j e))

  module _ (early : Early fs) (last : RanksLast fs k) where
    -- a frame of the table has its offset below its period
    frame-early : {g : Frame} → Mem g fs → g.offset < g.period
    frame-early m = let (i, h, e) = place_of no_frame m in rw e at (early i h)

    -- Nothing blocks the last frame.
    none-blocks : blocking fs f ≡ 0
    unfolding blocking below
    none-blocks = let none = greatest-le {f = λ g. g.length} {n = 0} (below fs f) no-frame in omega arith
      where
        no-frame : (g : Frame) → Mem g (below fs f) → g.length ≤ 0
        no-frame g m =
            let (n, t) = of-keep (is_below f) fs m in
            let (i, h, e) = place_of no_frame n in
            absurd (omega (arith, rw e at (last i h), ltb→lt f.priority g.priority t))

    -- ---- a scenario of the precise bound, with starts that bring every group to its alignment at one tick

    module _ (cs : List Choice) (m : Mem cs (scenarios fs f every_group)) where
      -- the alignments that are shown of it, and the starts
      abbrev als : List ℕ
      als = map shown cs

      abbrev starts : ℕ → ℕ
      starts = for_group (starts_of als)

      -- each group stands at its alignment at the meeting tick
      meets : (j : ℕ) → Mem j (range 1 groups) → starts j + for_group als j ≡ meeting_tick als
      meets j l =
          let (low, high) = of_range 1 groups l in
          let inside : j - 1 < length als = omega (arith, length-map cs shown, scenarios-length fs f every_group m) in
          omega (arith, start-at als (j - 1) inside, alignment-before als (j - 1) inside)

      abbrev α : ℕ
      α = for_group als f.group

      abbrev d : ℕ
      d = distance f α

      -- the frame's own group
      own : choice_of cs f.group ≡ Fixed α
      own = fixed cs m f.group (group-listed self)

      own_meets : starts f.group + α ≡ meeting_tick als
      own_meets = meets f.group (group-listed self)

      -- The instances before the meeting tick are those before the alignment.
      instance-is : (q : ℕ) → instance_from f α (suc q) ≡ released_by starts f (meeting_tick als) + q
      unfolding instance_from released_by releases_before
      instance-is q =
          let same : α - f.offset ≡ meeting_tick als - (starts f.group + f.offset) = omega (arith, own_meets) in
          let from_zero : suc q - 1 ≡ q = omega arith in
          rw (same, from_zero) refl

      -- Instance q from there on is released at the meeting tick or later, and no later than its distance and q periods.
      released-between : (q : ℕ) → (meeting_tick als ≤ release starts f (instance_from f α (suc q))) × (release starts f (instance_from f α (suc q)) ≤ meeting_tick als + (d + q * f.period))
      unfolding release released_by
      released-between q =
          let after = next-after (starts f.group + f.offset) self.period (meeting_tick als) in
          let soon = next_le starts (meeting_tick als) α self (early k inside) own_meets in
          rw (instance-is q) (omega arith, omega arith)

      -- ---- instance q of its window, in a schedule whose transmissions have their largest lengths

      module _
          (l : ℕ) (window : busy_window Never fs f cs ≡ Some l) (q : ℕ) (released : d + q * f.period < l)
          (T : ℕ) {xs : List Transmission} (schedule : Schedule Never fs starts T xs) (longest : Longest fs xs)
        where
          -- It responds no earlier than the scenario has it.
          responds-late : {x : Transmission} → Mem x xs → x.frame ≡ k → x.instance ≡ instance_from f α (suc q)
              → release starts f (instance_from f α (suc q)) + instance_response Never fs f cs q ≤ x.start + x.length
          unfolding delay_load fault_load
          responds-late {x} n mine which =
              let A = meeting_tick als in
              let found = sent-fitting valid starts k A Never T schedule longest n in
              let (w, e, le) = delay-within valid inside Never cs α own l window q released in
              let whole = response-whole valid inside Never cs α own l window q released w e in
              let (low, high) = released-between q in
              let started = rw (mine, which) at (start-after found) in
              let arrives = work-arrives fs f starts A cs (for_group als) (fixed cs m) meets (better fs f) (λ g b. valid-frame valid (in_table b)) (λ g b. frame-early (in_table b)) (suc (x.start - A)) in
              let time = elapsed valid starts k A inside mine found (omega arith) in
              let before : x.instance - released_by starts f A ≡ q = omega (arith, instance-is q) in
              let soonest = delay-least Never fs f cs q w (x.start - A) e (omega (arith, none-blocks, rw before at time)) in
              omega (arith, rw mine at (longest x n))
            where
              in_table : {g : Frame} → Mem g (better fs f) → Mem g fs
              in_table b = of-ahead fs f (better-ahead fs f _ b)

  -- ---- the worst case, where no window lacks

  module _ (has : ¬ T (lacks_window Never fs f)) where
    abbrev bound : ℕ
    bound = precise_bound Never fs f

    windows : Windowed Never fs f every_group
    windows = precise-windows valid inside Never (has-windows Never fs f has)

    -- The bound is met in every schedule.
    bound-meets : MeetsClaim Never fs k bound
    unfolding ValidFaults
    bound-meets = sound-precise valid inside Never tt (has-windows Never fs f has) bound (le_refl _)

    -- It is not 0, for a transmission takes a tick or more.
    pub bound_some : 1 ≤ bound
    unfolding MeetsClaim
    bound_some =
        let starts : ℕ → ℕ = λ j. 0 in
        let T = release starts f 0 + bound in
        let (xs, schedule, longest) = longest-schedule valid starts T in
        let done = bound-meets starts T xs schedule 0 (le_refl _) in
        let found = sent-fitting valid starts k 0 Never T schedule longest done.listed in
        omega (arith, found.next.positive, done.ended, rw (done.frame, done.instance) at (start-after found))

    -- The worst case exists, and stands in a scenario.
    pub worst-exists : Exists (worst_case fs f)
    unfolding worst_case
    worst-exists = (case-exists Never fs f (bound - 1)).1 (omega (arith, bound_some))

    -- that case, and the number of its instance
    abbrev c : Case
    c = worst-exists.0

    abbrev q : ℕ
    q = c.instance

    worst-shown : Shown Never fs f (bound - 1) (scenarios fs f every_group) c
    unfolding worst_case first_case
    worst-shown = among-shown Never fs f (bound - 1) (scenarios fs f every_group) c worst-exists.1

    shown-alignments : alignments_of (worst_case fs f) ≡ map shown worst-shown.scenario
    unfolding alignments_of
    shown-alignments = rw worst-exists.1 worst-shown.alignments

    -- that scenario, and its window
    abbrev worst : List Choice
    worst = worst-shown.scenario

    worst-listed : Mem worst (scenarios fs f every_group)
    worst-listed = rw worst-shown.listed (Memᴰ.append_right worst-shown.before (here refl))

    worst-window : (l : ℕ) × (busy_window Never fs f worst ≡ Some l)
    worst-window = windows worst worst-listed

    -- The instance is released in it, and has the bound as its response.
    worst-q : (l : ℕ) → busy_window Never fs f worst ≡ Some l → (1 ≤ q) × (distance f (for_group (map shown worst) f.group) + (q - 1) * f.period < l) × (bound ≤ instance_response Never fs f worst (q - 1))
    worst-q l window =
        let (low, high, t) = least_at (exceeds Never fs f (bound - 1) worst) (count Never fs f (bound - 1) worst l) 1 q (sym (exceeding-at Never fs f (bound - 1) worst l window) ∙ worst-shown.least) in
        let released = listed-released valid inside Never worst (for_group (map shown worst) f.group) (fixed worst worst-listed f.group (group-listed self)) l window (mem-range 0 (count Never fs f (bound - 1) worst l) (q - 1) (omega arith) (omega arith)) in
        (low, released, omega (arith, ltb→lt (bound - 1) _ t, bound_some))

    -- Its numbers are small: the instance is one of a window, and an alignment one of its group's.
    pub worst-number : (1 ≤ instance_of (worst_case fs f)) × (instance_of (worst_case fs f) ≤ window_limit)
    unfolding instance_of
    worst-number =
        let (l, window) = worst-window in
        let (low, released, reaches) = worst-q l window in
        let (some, high, fits) = window-at Never fs f worst l window in
        rw worst-exists.1 (low, omega (arith, le-mul_of_pos_right (q - 1) self.period))

    pub worst-alignment : (j : ℕ) → Mem j (range 1 groups) → Mem (for_group (alignments_of (worst_case fs f)) j) (or_empty (alignments fs f j))
    worst-alignment j l = rw shown-alignments (shown-listed worst worst-listed j l)

    -- ---- the bound is reached

    -- The starts and the instance are those of the scenario.
    starts-are : worst_starts fs f ≡ starts_of (map shown worst)
    unfolding worst_starts
    starts-are = ap starts_of shown-alignments

    number_is : worst_instance fs f ≡ instance_from f (for_group (map shown worst) f.group) q
    unfolding worst_instance instance_of
    number_is = ap₂ (λ (als : List ℕ) (o : Option Case). instance_from f (for_group als f.group) (instance_of o)) shown-alignments worst-exists.1

    module _ (early : Early fs) (last : RanksLast fs k) where
      -- In every schedule with these starts and the largest lengths, instance n responds no earlier than the bound.
      abbrev Late : List ℕ → ℕ → Type 0
      Late starts n =
          (T : ℕ) (xs : List Transmission) → Schedule Never fs (for_group starts) T xs → Longest fs xs → (x : Transmission) → Mem x xs → x.frame ≡ k → x.instance ≡ n
          → release (for_group starts) f n + bound ≤ x.start + x.length

      -- So it is with those of the worst case.
      scenario-late : Late (starts_of (map shown worst)) (instance_from f (for_group (map shown worst) f.group) q)
      scenario-late T xs schedule longest x n mine which =
          let (l, window) = worst-window in
          let (low, released, reaches) = worst-q l window in
          let number : suc (q - 1) ≡ q = omega arith in
          omega (arith, rw number at (responds-late early last worst worst-listed l window (q - 1) released T schedule longest n mine (rw number which)))

      worst-late : Late (worst_starts fs f) (worst_instance fs f)
      worst-late = subst (λ (ss : List ℕ). Late ss (worst_instance fs f)) (sym starts-are) (subst (Late (starts_of (map shown worst))) (sym number_is) scenario-late)

      -- the starts by group
      abbrev starting : ℕ → ℕ
      starting = for_group (worst_starts fs f)

      -- the instance's release and the bound
      abbrev end : ℕ
      end = release starting f (worst_instance fs f) + bound

      -- The last frame's precise bound is reached.
      bound-reached : Responds fs starting k (worst_instance fs f) (precise_bound Never fs f)
      unfolding MeetsClaim
      bound-reached =
          let (xs, schedule, longest) = longest-schedule valid starting end in
          let done = bound-meets starting end xs schedule (worst_instance fs f) (le_refl _) in
          record {
            list = xs;
            schedule = schedule;
            longest = longest;
            sent = done.sent;
            listed = done.listed;
            frame = done.frame;
            instance = done.instance;
            ended = omega (arith, done.ended, worst-late end xs schedule longest done.sent done.listed done.frame done.instance);
          }

      -- So a smaller claim is missed in some schedule.
      smaller-missed : (claim : ℕ) → claim < precise_bound Never fs f → ¬ MeetsClaim Never fs k claim
      unfolding MeetsClaim
      smaller-missed claim less met =
          let r = bound-reached in
          let done = met starting end r.list r.schedule (worst_instance fs f) (omega arith) in
          omega (arith, done.ended, worst-late end r.list r.schedule r.longest done.sent done.listed done.frame done.instance)

      -- The claims that are met in all schedules are those from the bound on.
      claims-met : (claim : ℕ) → MeetsClaim Never fs k claim ↔ (precise_bound Never fs f ≤ claim)
      unfolding ValidFaults
      claims-met claim = (
        λ met. let no : ¬ (claim < precise_bound Never fs f) = λ less. smaller-missed claim less met in omega arith,
        λ le. sound-precise valid inside Never tt (has-windows Never fs f has) claim le,
      )

  -- ---- the statements, for a frame whose verdict is not 11

  module _ (early : Early fs) (last : RanksLast fs k) (claim : ℕ) (windowed : verdict (judge Never fs f claim).outcome ≢ 11) where
    -- The last frame's precise bound is reached to the tick, with these starts and the largest lengths.
    pub last-reached : Responds fs (for_group (worst_starts fs f)) k (worst_instance fs f) (precise_bound Never fs f)
    last-reached = bound-reached (not-lacking Never fs f claim windowed) early last

    -- It is the least claim that is met in all schedules.
    pub last-least : (c : ℕ) → MeetsClaim Never fs k c ↔ (precise_bound Never fs f ≤ c)
    last-least = claims-met (not-lacking Never fs f claim windowed) early last
