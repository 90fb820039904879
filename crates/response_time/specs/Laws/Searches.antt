-- The two searches of a scenario, as one loop computes them: the load of a number, what the loop may pass over,
-- the busy window, and the instances of a window one after the other.
use Prim.Native.Nat.{ℕ, zero, suc, ◌+◌, ◌-◌, ◌*◌, ◌≤◌, ◌<◌, min, max}
use Rattle.std.specs.Prelude.{◌≡◌, List, Bool, T, Option, Some, None}
use Rattle.std.proofs.Math.Path.{refl, sym, ap, fun_ext}
use Rattle.std.proofs.Common.{subst, ◌∙◌, add-zero, mul-le-mul}
use native.Mathlib.Omega.{arith}
use Rattle.std.proofs.Math.Nat.{add-mul}
use Rattle.std.proofs.Math.Decide.{dec_lt}
use Rattle.std.proofs.Math.Numerals.{add-one}
use Rattle.std.proofs.Math.Dec.{leb, leb→le, le→leb}
use Rattle.arith.specs.Lists.{greatest}
use Rattle.arith.specs.Least.{least, or_zero}
use Rattle.arith.specs.Releases.{releases_before}
use Rattle.arith.specs.Laws.Walks.{CountUp, count-start, count-more, count-end, greatest-more}
use Rattle.arith.specs.Laws.Releases.{counted}
use Rattle.arith.specs.Laws.Members.{of_range}
use Rattle.arith.specs.Laws.Sums.{greatest-le}
use Rattle.arith.specs.Laws.Least.{least-le, least-here, least-none, least_skip, least-from, least-neither}
use Rattle.bus_model.specs.declared.Frame.{Frame}
use Rattle.bus_model.specs.declared.Faults.{Faults}
use Rattle.bus_model.specs.declared.Faults.TheVariants.{Never, Apart}
use Rattle.bus_model.specs.declared.Choice.{Choice}
use Rattle.bus_model.specs.declared.Choice.TheVariants.{Fixed}
use Rattle.bus_model.specs.Valid.{Valid}
use Rattle.bus_model.specs.Bounds.{window_limit, ahead, better, blocking, distance, choice_of, demand, work, fault_load, window_load, busy_window, delay_load, queueing_delay, own_distance, instance_response, response_time}
use Rattle.bus_model.proofs.Theory.Frames.{better-ahead}
use Rattle.bus_model.specs.Theory.Work.{RefinedBy}
use Rattle.bus_model.proofs.Theory.Work.{work-mono, fault-mono, work-refine, work-own}
use Rattle.bus_model.specs.Case.{exceeding_instance}
use Rattle.bus_model.proofs.Theory.Cases.{exceeding-is, exceeding-none}
use Rattle.bus_model.proofs.Theory.Response.{window-at, own-distance, delay-at, delay-within, response-at}
use Rattle.bus_model.proofs.Theory.Iteration.{delay-next}
use Rattle.workload.specs.declared.Search.{Search}
use Rattle.workload.specs.declared.Search.TheVariants.{Window, Instance}
use Rattle.workload.specs.declared.Target.{Target}
use Rattle.workload.specs.Prepared.{FineTable, InTable}
use Rattle.workload.specs.Faults.{cost_of, faults_in, lead_of, FineTarget}
use Rattle.workload.specs.Placed.{Placed, placed_frames, placed_out, placed_work, AllFixed, FinePlaced}
use Rattle.workload.proofs.Laws.Fine.{in-table-fine}
use Rattle.workload.proofs.Laws.Groups.{blocking-small}
use Rattle.workload.proofs.Laws.Placed.{placed-mono, placed-both, faults-work, better-exact, ahead-exact}
use Rattle.response_time.specs.Load.{load_of, frame_load, holds, Asked, base_of, waits_of, shift_of, placed_holds, Windowed, Later, NoneAbove, Meets}

-- ---- the search for a number that holds its load, where loads do not fall

module _ (load : ℕ → ℕ) (mono : (x y : ℕ) → x ≤ y → load x ≤ load y) (e x : ℕ) {needed : ℕ} (is : needed ≡ load x) where
  abbrev fits : ℕ → Bool
  fits y = leb (load y) y

  -- It stops at one.
  pub stop-here : x < e → needed ≤ x → Some x ≡ least fits (e - x) x
  stop-here inside le = sym (least-here _ e x inside (le→leb _ x (rw is at le)))

  -- Nothing below its load holds its own.
  passed_over : (y : ℕ) → x ≤ y → y < needed → ¬ T (fits y)
  passed_over y le less t = omega (arith, mono x y le, leb→le _ y t)

  -- So the search goes on at the load,
  pub skip-on : x < needed → needed ≤ e → least fits (e - x) x ≡ least fits (e - needed) needed
  skip-on more inside = least_skip _ e x needed (omega arith) inside passed_over

  -- and finds nothing where that is beyond its end.
  pub stop-beyond : e ≤ needed → None ≡ least fits (e - x) x
  stop-beyond over = sym (least-none _ (e - x) x (λ y le less. passed_over y le (omega arith)))

-- ---- that of a scenario

module _ (faults : Faults) {fs : List Frame} (valid : Valid fs) (k : Frame) (cs : List Choice) where
  load-mono : (search : Search) (x y : ℕ) → x ≤ y → load_of faults fs k cs search x ≤ load_of faults fs k cs search y
  unfolding window_load delay_load
  load-mono Window x y le = omega (arith, work-mono le fs valid k (λ g m. m) cs, fault-mono le faults fs k)
  load-mono (Instance q) x y le =
      let later : suc x ≤ suc y = omega arith in
      let ended : x + k.length ≤ y + k.length = omega arith in
      omega (arith, work-mono later fs valid k (better-ahead fs k) cs, fault-mono ended faults fs k)

  module _ (search : Search) (e x : ℕ) {needed : ℕ} (is : needed ≡ load_of faults fs k cs search x) where
    pub climb-here : x < e → needed ≤ x → Some x ≡ least (holds faults fs k cs search) (e - x) x
    unfolding holds
    climb-here = stop-here (load_of faults fs k cs search) (load-mono search) e x is

    pub climb-skip : x < needed → needed ≤ e → least (holds faults fs k cs search) (e - x) x ≡ least (holds faults fs k cs search) (e - needed) needed
    unfolding holds
    climb-skip = skip-on (load_of faults fs k cs search) (load-mono search) e x is

    pub climb-beyond : e ≤ needed → None ≡ least (holds faults fs k cs search) (e - x) x
    unfolding holds
    climb-beyond = stop-beyond (load_of faults fs k cs search) (load-mono search) e x is

-- ---- that of placed frames

module _ {gs : List Placed} (fine : FinePlaced gs) (shift base e x : ℕ) {needed : ℕ} (is : needed ≡ base + placed_work gs (x + shift)) where
  placed-load-mono : (x y : ℕ) → x ≤ y → base + placed_work gs (x + shift) ≤ base + placed_work gs (y + shift)
  placed-load-mono x y le = let later : x + shift ≤ y + shift = omega arith in omega (arith, placed-mono fine later)

  pub placed-here : x < e → needed ≤ x → Some x ≡ least (placed_holds gs shift base) (e - x) x
  unfolding placed_holds
  placed-here = stop-here (λ y. base + placed_work gs (y + shift)) placed-load-mono e x is

  pub placed-skip : x < needed → needed ≤ e → least (placed_holds gs shift base) (e - x) x ≡ least (placed_holds gs shift base) (e - needed) needed
  unfolding placed_holds
  placed-skip = skip-on (λ y. base + placed_work gs (y + shift)) placed-load-mono e x is

  pub placed-beyond : e ≤ needed → None ≡ least (placed_holds gs shift base) (e - x) x
  unfolding placed_holds
  placed-beyond = stop-beyond (λ y. base + placed_work gs (y + shift)) placed-load-mono e x is

-- What the faults cost is what the load counts of them.
pub fault-cost : (faults : Faults) (fs : List Frame) (k : Frame) {cost : ℕ} → cost ≡ cost_of faults fs k → (n : ℕ) → faults_in faults n * cost ≡ fault_load faults fs k n
unfolding cost_of faults_in fault_load
fault-cost Never fs k is n = omega (arith, is)
fault-cost (Apart g) fs k is n = ap (λ (c : ℕ). releases_before 0 g n * c) is

-- What is placed asks for the work of the frames and the faults, those in the lead counted beside.
module _ (fs : List Frame) {t : Target} (fine : FineTarget t) (cost : t.cost ≡ cost_of t.faults fs t.frame) (search : Search) (cs : List Choice) where
  pub placed-load : (n : ℕ) → waits_of t search + placed_work (placed_out fs t search cs) n
      ≡ base_of t.blocked t.frame search + placed_work (placed_frames fs t.frame search cs) n + fault_load t.faults fs t.frame (n + lead_of search t.frame)
  unfolding waits_of
  placed-load n =
      let lead = lead_of search t.frame in
      let asked = faults-work t.faults fine.premise t.cost lead n in
      let counted = fault-cost t.faults fs t.frame cost (n + lead) in
      omega (arith, placed-both fs t search cs n)

-- The load is that of the frames, and that of the faults up to where releases and the lead are counted.
pub load-parts : (faults : Faults) (fs : List Frame) (k : Frame) → 1 ≤ k.length → (cs : List Choice) (search : Search) (x : ℕ)
    → frame_load fs k cs search x + fault_load faults fs k (x + shift_of search + lead_of search k) ≡ load_of faults fs k cs search x
unfolding lead_of window_load delay_load
load-parts faults fs k long cs Window x = let same : x + 0 + 0 ≡ x = omega arith in rw same
load-parts faults fs k long cs (Instance q) x = let same : x + 1 + (k.length - 1) ≡ x + k.length = omega arith in rw same

-- Where every group's alignment is fixed, what is placed holds what the scenario holds.
module _ {fs : List Frame} (table : FineTable fs) {t : Target} (fine : FineTarget t) (blocks : t.blocked ≡ blocking fs t.frame)
    (cost : t.cost ≡ cost_of t.faults fs t.frame) (cs : List Choice) (fixed : AllFixed cs) where
  frames-is : (search : Search) (x : ℕ) → base_of t.blocked t.frame search + placed_work (placed_frames fs t.frame search cs) (x + shift_of search) ≡ frame_load fs t.frame cs search x
  unfolding base_of
  frames-is Window x = rw (add-zero x, blocks, ahead-exact table t.frame cs fixed x)
  frames-is (Instance q) x = rw (blocks, ← better-exact table t.frame cs fixed (x + 1) q, add-one x)

  placed-is : (search : Search) (x : ℕ) → waits_of t search + placed_work (placed_out fs t search cs) (x + shift_of search) ≡ load_of t.faults fs t.frame cs search x
  placed-is search x =
      placed-load fs fine cost search cs (x + shift_of search)
      ∙ ap (λ (n : ℕ). n + fault_load t.faults fs t.frame (x + shift_of search + lead_of search t.frame)) (frames-is search x)
      ∙ load-parts t.faults fs t.frame fine.long cs search x

  holds-placed : (search : Search) → placed_holds (placed_out fs t search cs) (shift_of search) (waits_of t search) ≡ holds t.faults fs t.frame cs search
  unfolding placed_holds holds
  holds-placed search = fun_ext (λ x. ap (λ (n : ℕ). leb n x) (placed-is search x))

  pub placed-search : (search : Search) {gs : List Placed} {shift base : ℕ} → gs ≡ placed_out fs t search cs → shift ≡ shift_of search
      → base ≡ waits_of t search → placed_holds gs shift base ≡ holds t.faults fs t.frame cs search
  placed-search search is by waits = rw (is, by, waits) (holds-placed search)

-- What is waited for besides the work is small,
pub base-small : {fs : List Frame} → FineTable fs → {k : Frame} → InTable fs k → (cs : List Choice) (search : Search) → Asked k cs search → {blocked : ℕ} → blocked ≡ blocking fs k
    → base_of blocked k search ≤ 400000400
unfolding base_of
base-small {fs} table {k} listed cs Window asked blocks = omega (arith, blocking-small fs table k)
base-small {fs} table {k} listed cs (Instance q) asked blocks =
    let few : q * k.length ≤ 1000000 * 400 = mul-le-mul {n₂ = 1000000} {m₂ = 400} asked.1 (in-table-fine fs table listed).length_high in
    omega (arith, blocking-small fs table k)

-- Which instance it is makes no difference to what is placed for it.
pub placed-any : (fs : List Frame) (t : Target) (cs : List Choice) (q : ℕ) → placed_out fs t (Instance 0) cs ≡ placed_out fs t (Instance q) cs
unfolding lead_of
placed-any fs t cs q = refl

-- ---- the search by a scenario that refines the one at hand

module _ (faults : Faults) {fs : List Frame} (valid : Valid fs) (k : Frame) (cs cs' : List Choice) (finer : RefinedBy fs k cs cs') where
  -- That has no greater load.
  pub load-finer : (search : Search) (x : ℕ) → load_of faults fs k cs' search x ≤ load_of faults fs k cs search x
  unfolding window_load delay_load
  load-finer Window x = omega (arith, work-refine valid k (λ g m. m) cs cs' finer x)
  load-finer (Instance q) x = omega (arith, work-refine valid k (better-ahead fs k) cs cs' finer (suc x))

  module _ (search : Search) (e x : ℕ) {found : Option ℕ} (is : found ≡ least (holds faults fs k cs' search) (e - x) x) where
    -- What holds its load holds it there.
    holds-finer : (y : ℕ) → T (holds faults fs k cs search y) → T (holds faults fs k cs' search y)
    unfolding holds
    holds-finer y t = le→leb _ y (omega (arith, load-finer search y, leb→le _ y t))

    -- So the search goes on at what is found there,
    pub finer-skip : {y : ℕ} → found ≡ Some y → least (holds faults fs k cs search) (e - x) x ≡ least (holds faults fs k cs search) (e - y) y
    finer-skip {y} at = least-from _ _ e holds-finer x y (sym is ∙ at)

    -- and finds nothing where nothing is found there.
    pub finer-beyond : found ≡ None → None ≡ least (holds faults fs k cs search) (e - x) x
    finer-beyond none = sym (least-neither _ _ e holds-finer x (sym is ∙ none))

-- ---- the busy window

module _ (faults : Faults) (fs : List Frame) (k : Frame) (cs : List Choice) where
  -- What the search finds is the window.
  pub window-search : least (holds faults fs k cs Window) (1000001 - 1) 1 ≡ busy_window faults fs k cs
  unfolding busy_window holds window_limit
  window-search = refl

  -- It is not longer than the limit.
  pub window-small : {l : ℕ} → busy_window faults fs k cs ≡ Some l → l ≤ 1000000
  unfolding window_limit
  window-small {l} e = (window-at faults fs k cs l e).1

  -- ---- the queueing delay of instance q

  -- The search finds it from any number on that no delay is below.
  delay-search : (q from : ℕ) → ((w : ℕ) → delay_load faults fs k cs q w ≤ w → from ≤ w) → from ≤ 1000000
      → least (holds faults fs k cs (Instance q)) (1000000 - from) from ≡ queueing_delay faults fs k cs q
  unfolding queueing_delay holds window_limit
  delay-search q from later inside = sym (least_skip _ 1000000 0 from (omega arith) inside (λ w low less t. omega (arith, later w (leb→le _ w t))))

  -- No other delay is below it.
  delay-least : (q v w : ℕ) → queueing_delay faults fs k cs q ≡ Some v → delay_load faults fs k cs q w ≤ w → v ≤ w
  unfolding queueing_delay
  delay-least q v w e fits = least-le _ window_limit 0 v w e (omega arith) (le→leb _ w fits)

-- ---- a frame k of the table, in a scenario that fixes the alignment of its own group

module _ {fs : List Frame} (valid : Valid fs) {k : Frame} (listed : InTable fs k) (cs : List Choice) {own : ℕ} (fixed : choice_of cs k.group ≡ Fixed own) where
  -- The work of the frames ahead is that of the better ones and k's own.
  own-part : (n : ℕ) → work fs k (better fs k) cs n + demand k own n ≡ work fs k (ahead fs k) cs n
  own-part n =
      subst (λ (f : Frame). choice_of cs f.group ≡ Fixed own → work fs f (better fs f) cs n + demand f own n ≡ work fs f (ahead fs f) cs n)
      (sym listed.is) (work-own valid listed.inside own n cs) fixed

  -- So the frames' load of a start comes from all work and k's own.
  pub start-load : (q x : ℕ) {all mine : ℕ} → all ≡ work fs k (ahead fs k) cs (x + 1) → mine ≡ demand k own (x + 1)
      → (mine ≤ all) × (blocking fs k + q * k.length + (all - mine) ≡ frame_load fs k cs (Instance q) x)
  start-load q x whole part = let share = own-part (x + 1) in (omega arith, rw (← add-one x) (omega arith))

  -- An instance released in the window ends in it.
  ends-within : (faults : Faults) {l : ℕ} → busy_window faults fs k cs ≡ Some l → (q : ℕ) → distance k own + q * k.period < l → (w : ℕ) × (queueing_delay faults fs k cs q ≡ Some w) × (w + k.length ≤ l)
  ends-within faults {l} window =
      subst (λ (f : Frame). choice_of cs f.group ≡ Fixed own → busy_window faults fs f cs ≡ Some l
      → (q : ℕ) → distance f own + q * f.period < l → (w : ℕ) × (queueing_delay faults fs f cs q ≡ Some w) × (w + f.length ≤ l))
      (sym listed.is) (λ f. delay-within valid listed.inside faults cs own f l) fixed window

-- ---- the instances released in a busy window

-- An instance after another waits for no less.
pub later-pass : (faults : Faults) (fs : List Frame) (k : Frame) (cs : List Choice) {from q p : ℕ} → q ≤ p → Later faults fs k cs from q → Later faults fs k cs from p
unfolding delay_load
later-pass faults fs k cs {q = q} {p} le later w t =
    let same : q + (p - q) ≡ p = omega arith in
    later w (omega (arith, rw same at (add-mul q (p - q) k.length), t))

-- Instance q is next: `best` is the greatest of `given` and what is counted before it, and no delay of it is below `from`.
pub record InstanceLoop (faults : Faults) (fs : List Frame) (k : Frame) (cs : List Choice) (l instances given best from q : ℕ) : Type 0 where
  pub counts : CountUp (greatest (instance_response faults fs k cs)) max instances (max given (response_time faults fs k cs l)) best q
  pub later : Later faults fs k cs from q

module _ {faults : Faults} {fs : List Frame} {k : Frame} {cs : List Choice} {l instances given best from : ℕ} where
  -- The last one was counted.
  pub loop-end : {q : ℕ} → InstanceLoop faults fs k cs l instances given best from q → instances ≤ q → best ≡ max given (response_time faults fs k cs l)
  unfolding greatest
  loop-end turn over = let all = count-end _ _ _ _ turn.counts over in omega arith

  -- One that has no greater response may be passed over: the next one waits for no less.
  loop-pass : {q : ℕ} → InstanceLoop faults fs k cs l instances given best from q → q < instances → instance_response faults fs k cs q ≤ best → InstanceLoop faults fs k cs l instances given best from (q + 1)
  loop-pass {q} turn inside le =
      record {
        counts = count-more _ _ _ _ turn.counts inside (greatest-more _ best q (omega arith));
        later = later-pass faults fs k cs (omega arith) turn.later;
      }

  -- So may some, up to the last.
  pub loop-skip : (c : ℕ) {q : ℕ} → InstanceLoop faults fs k cs l instances given best from q → ((i : ℕ) → i < c → instance_response faults fs k cs (q + i) ≤ best) → InstanceLoop faults fs k cs l instances given best from (min (q + c) instances)
  loop-skip zero {q} turn each = let same : min (q + 0) instances ≡ q = omega (arith, turn.counts.inside) in rw same turn
  loop-skip (suc c) {q} turn each =
      elim (dec_lt q instances) [
        | yes inside ↦
            let none : q + 0 ≡ q = omega arith in
            let first : instance_response faults fs k cs q ≤ best = rw none at (each 0 (omega arith)) in
            let next = loop-skip c (loop-pass turn inside first) (λ i less. let is : q + (i + 1) ≡ q + 1 + i = omega arith in rw is at (each (i + 1) (omega arith))) in
            let same : q + 1 + c ≡ q + suc c = omega arith in
            rw same at next
        | no over ↦ let same : min (q + suc c) instances ≡ q = omega (arith, turn.counts.inside) in rw same turn
      ]

  -- So the greatest is known where none of the rest is above it.
  pub loop-none : {q : ℕ} → InstanceLoop faults fs k cs l instances given best from q → NoneAbove faults fs k cs best q instances → best ≡ max given (response_time faults fs k cs l)
  loop-none {q} turn none = loop-end (loop-skip (instances - q) turn (λ i less. none (q + i) (omega arith) (omega arith))) (omega arith)

  -- With the response of the one that is met counted the next one's turn is there.
  pub loop-met : {q response next from' q' : ℕ} → InstanceLoop faults fs k cs l instances given best from q → Meets faults fs k cs instances best q response from' q'
      → next ≡ max best response → InstanceLoop faults fs k cs l instances given next from' q'
  loop-met {q} {from' = from'} {q'} turn m is =
      let there : min (q + (m.met - q)) instances ≡ m.met = omega (arith, m.reached, m.inside) in
      let at = rw there at (loop-skip (m.met - q) turn (λ i less. m.passed (q + i) (omega arith) (omega (arith, m.reached)))) in
      record {
        counts = rw m.after (count-more _ _ _ _ at.counts m.inside (greatest-more _ best m.met (is ∙ ap (max best) m.is)));
        later = m.later;
      }

-- ---- one instance's turn: its delay is found, and its response

module _ {faults : Faults} {fs : List Frame} {k : Frame} {cs : List Choice} {l instances : ℕ} (v : Windowed faults fs k cs l instances) where
  valid : Valid fs
  valid = v.accepted.valid

  own-away : own_distance k cs ≡ distance k v.fixed.0
  own-away = own-distance fs k cs v.fixed.0 v.fixed.1

  -- The first one.
  pub loop-start : {given : ℕ} → InstanceLoop faults fs k cs l instances given given 0 0
  unfolding response_time
  loop-start = record { counts = count-start _ _ _ _ (rw v.number); later = λ w t. omega arith }

  released : {q : ℕ} → q < instances → own_distance k cs + q * k.period < l
  released {q} inside = (counted (own_distance k cs) (in-table-fine fs v.accepted v.listed).period-low l q).0 (rw v.number at inside)

  -- An instance's release is below the limit.
  pub loop-fits : (q : ℕ) → q < instances → own_distance k cs + q * k.period < 1000000
  loop-fits q inside = omega (arith, window-small faults fs k cs v.window, released inside)

  module _ {from q : ℕ} (later : Later faults fs k cs from q) (inside : q < instances) where
    starts : (w : ℕ) × (queueing_delay faults fs k cs q ≡ Some w) × (w + k.length ≤ l)
    starts = ends-within valid v.listed cs v.fixed.1 faults v.window q (rw own-away at (released inside))

    -- Its delay is found by the search from `from` on.
    module _ {delay : ℕ} {found : Option ℕ} (search : found ≡ least (holds faults fs k cs (Instance q)) (1000000 - from) from) (is : delay ≡ or_zero found) where
      its-delay : (queueing_delay faults fs k cs q ≡ Some delay) × (delay + k.length ≤ l)
      its-delay =
          let (w, e, le) = starts in
          let low : from ≤ 1000000 = omega (arith, later w (delay-at faults fs k cs q w e), window-small faults fs k cs v.window) in
          let same : delay ≡ w = is ∙ ap or_zero (search ∙ delay-search faults fs k cs q from later low ∙ e) in
          rw same (e, le)

      -- It ends below the limit,
      pub loop-ends : delay + k.length ≤ 1000000
      loop-ends = omega (arith, its-delay.1, window-small faults fs k cs v.window)

      -- its response runs from its release to there,
      pub loop-response : {response : ℕ} → response ≡ delay + k.length - (own_distance k cs + q * k.period) → response ≡ instance_response faults fs k cs q
      unfolding instance_response
      loop-response response-is = response-is ∙ rw its-delay.0

      -- and no delay of the next one is below.
      pub loop-later : Later faults fs k cs (delay + k.length) (q + 1)
      loop-later w t = delay-next faults valid k cs q delay (λ x u. delay-least faults fs k cs q delay x its-delay.0 u) w (rw add-one at t)

-- ---- the first of them whose response exceeds a claim

-- What is passed over after those that do not does not either.
none-on : (faults : Faults) (fs : List Frame) (k : Frame) (cs : List Choice) {claim q end : ℕ} → NoneAbove faults fs k cs claim 0 q → NoneAbove faults fs k cs claim q end → NoneAbove faults fs k cs claim 0 end
none-on faults fs k cs {q = q} before after i low less = elim (dec_lt i q) [ yes earlier ↦ before i low earlier | no later ↦ after i (omega arith) less ]

module _ {faults : Faults} {fs : List Frame} {k : Frame} {cs : List Choice} {instances claim q : ℕ} (before : NoneAbove faults fs k cs claim 0 q) where
  -- Where all are passed over, there is none.
  pub claim-end : {l : ℕ} → Windowed faults fs k cs l instances → NoneAbove faults fs k cs claim q instances → None ≡ exceeding_instance faults fs k claim cs
  unfolding response_time
  claim-end {l} v after =
      sym (exceeding-none faults fs k claim cs (rw (response-at faults fs k cs l v.window)
      (greatest-le _ (λ i m. let (low, high) = of_range 0 _ m in none-on faults fs k cs before after i (omega arith) (omega (arith, v.number))))))

  module _ {response from next : ℕ} (m : Meets faults fs k cs instances claim q response from next) where
    -- The first that exceeds it is found,
    pub claim-here : {l : ℕ} → Windowed faults fs k cs l instances → claim < response → Some next ≡ exceeding_instance faults fs k claim cs
    claim-here {l} v more =
        sym (rw (m.after, add-one m.met) (exceeding-is faults fs k claim cs l v.window m.met (rw v.number at m.inside) (omega (arith, m.is)) (λ i less. none-on faults fs k cs before m.passed i (omega arith) less)))

    -- and one that does not is counted.
    pub claim-more : response ≤ claim → NoneAbove faults fs k cs claim 0 next
    claim-more le i low less =
        let last : (i : ℕ) → i ≡ m.met → instance_response faults fs k cs i ≤ claim = λ i same. rw same (omega (arith, m.is)) in
        elim (dec_lt i m.met) [
          | yes earlier ↦ none-on faults fs k cs before m.passed i low earlier
          | no later ↦ last i (omega (arith, m.after))
        ]
