-- The busy window, the queueing delays and the response times of one scenario.
-- Where the frame's own alignment is fixed, each instance released in the window has a delay, and ends within the window.
use Prim.Native.Nat.{ℕ, suc, ◌+◌, ◌-◌, ◌*◌, ◌≤◌, ◌<◌}
use Rattle.std.specs.Prelude.{◌≡◌, length, Some, None}
use Rattle.std.proofs.Math.Path.{ap}
use mathlib.Core.List.{List, Memᴰ as Mem}
use native.Mathlib.Omega.{arith}
use Rattle.std.proofs.Math.Nat.{mul-le-mul_left}
use Rattle.std.proofs.Math.Dec.{leb→le}
use Rattle.std.proofs.Common.{le→leb}
use Rattle.arith.specs.Lists.{range}
use Rattle.arith.specs.Least.{or_zero}
use Rattle.arith.specs.Releases.{releases_before}
use Rattle.arith.specs.Laws.Members.{mem-range, of_range}
use Rattle.arith.specs.Laws.Sums.{le-greatest, greatest-le}
use Rattle.arith.specs.Laws.Least.{least_at, least-finds, least-le, least-none}
use Rattle.arith.specs.Laws.Releases.{counted, count-le}
use Rattle.bus_model.specs.Frame.{row}
use Rattle.bus_model.specs.Valid.{ValidFrame, Valid}
use Rattle.bus_model.specs.Bounds.{window_limit, distance, demand, choice_of, window_load, busy_window, delay_load, queueing_delay, own_distance, instance_response, response_time, scenario_response}
use Rattle.bus_model.proofs.Theory.Frames.{better-ahead}
use Rattle.bus_model.specs.Theory.Work.{RefinedBy}
use Rattle.bus_model.proofs.Theory.Work.{work-mono, fault-mono, work-refine, work-own}
use Rattle.bus_model.specs.declared.Frame.{Frame}
use Rattle.bus_model.specs.declared.Faults.{Faults}
use Rattle.bus_model.specs.declared.Choice.{Choice}
use Rattle.bus_model.specs.declared.Choice.TheVariants.{Fixed}

-- ---- the two searches

module _ (faults : Faults) (fs : List Frame) (k : Frame) (cs : List Choice) where
  -- A window holds its load.
  pub window-at : (l : ℕ) → busy_window faults fs k cs ≡ Some l → (1 ≤ l) × (l ≤ window_limit) × (window_load faults fs k cs l ≤ l)
  unfolding busy_window
  window-at l e = let (low, high, t) = least_at _ window_limit 1 l e in (low, omega arith, leb→le _ l t)

  -- Where a length holds its load, there is a window, which is not longer.
  pub window-found : (l : ℕ) → 1 ≤ l → l ≤ window_limit → window_load faults fs k cs l ≤ l → (m : ℕ) × (busy_window faults fs k cs ≡ Some m) × (m ≤ l)
  unfolding busy_window
  window-found l low high fits = least-finds _ window_limit 1 l low (omega arith) (le→leb _ l fits)

  -- No shorter length holds its load.
  pub window-least : (l m : ℕ) → busy_window faults fs k cs ≡ Some l → 1 ≤ m → window_load faults fs k cs m ≤ m → l ≤ m
  unfolding busy_window
  window-least l m e low fits = least-le _ window_limit 1 l m e low (le→leb _ m fits)

  -- Where no length holds its load, there is none.
  pub window-none : ((l : ℕ) → 1 ≤ l → l < window_load faults fs k cs l) → busy_window faults fs k cs ≡ None
  unfolding busy_window
  window-none more = least-none _ window_limit 1 (λ l low high t. omega (arith, more l low, leb→le _ l t))

  -- A delay allows for its load.
  pub delay-at : (q w : ℕ) → queueing_delay faults fs k cs q ≡ Some w → delay_load faults fs k cs q w ≤ w
  unfolding queueing_delay
  delay-at q w e = leb→le _ w (least_at _ window_limit 0 w e).2

  -- Where a tick allows for its load, there is a delay, which is not longer.
  pub delay-found : (q w : ℕ) → w < window_limit → delay_load faults fs k cs q w ≤ w → (v : ℕ) × (queueing_delay faults fs k cs q ≡ Some v) × (v ≤ w)
  unfolding queueing_delay
  delay-found q w high fits = least-finds _ window_limit 0 w (omega arith) (omega arith) (le→leb _ w fits)

  -- No shorter one allows for its load.
  pub delay-least : (q w v : ℕ) → queueing_delay faults fs k cs q ≡ Some w → delay_load faults fs k cs q v ≤ v → w ≤ v
  unfolding queueing_delay
  delay-least q w v e fits = least-le _ window_limit 0 w v e (omega arith) (le→leb _ v fits)

  -- A scenario with a window counts with its response time.
  pub response-at : (l : ℕ) → busy_window faults fs k cs ≡ Some l → scenario_response faults fs k cs ≡ response_time faults fs k cs l
  unfolding scenario_response
  response-at l e = rw (e, scenario_response)

  -- A scenario without one counts 0.
  pub response-none : busy_window faults fs k cs ≡ None → scenario_response faults fs k cs ≡ 0
  unfolding scenario_response
  response-none e = rw (e, scenario_response)

module _ (fs : List Frame) (k : Frame) (cs : List Choice) where
  -- The frame's own distance is that from its group's alignment.
  pub own-distance : (a : ℕ) → choice_of cs k.group ≡ Fixed a → own_distance k cs ≡ distance k a
  unfolding own_distance
  own-distance a own = rw (own, own_distance)

module _ {fs : List Frame} (valid : Valid fs) {k : ℕ} (inside : k < length fs) where
  abbrev f : Frame
  f = row fs k

  -- the frame is valid
  self : ValidFrame f
  self = valid.frame k inside

  -- ---- a scenario that fixes the frame's own group, and its window

  module _ (faults : Faults) (cs : List Choice) (a : ℕ) (own : choice_of cs f.group ≡ Fixed a) (l : ℕ) (window : busy_window faults fs f cs ≡ Some l) where
    -- An instance released in the window has a delay, and ends within the window.
    pub delay-within : (q : ℕ) → distance f a + q * f.period < l → (w : ℕ) × (queueing_delay faults fs f cs q ≡ Some w) × (w + f.length ≤ l)
    unfolding window_load delay_load demand
    delay-within q released =
        let (low, high, fits) = window-at faults fs f cs l window in
        let share = work-own valid inside a l cs own in
        let mine = mul-le-mul_left f.length ((counted (distance f a) self.period l q).1 released) in
        let early : suc (l - f.length) ≤ l = omega (arith, self.length) in
        let less = work-mono early fs valid f (better-ahead fs f) cs in
        let whole : l - f.length + f.length ≤ l = omega arith in
        let (w, e, le) = delay-found faults fs f cs q (l - f.length) (omega (arith, self.length)) (omega (arith, fault-mono whole faults fs f)) in
        (w, e, omega arith)

    -- Its delay does not end before its release, or a shorter window would do.
    released-in-time : (q : ℕ) → distance f a + q * f.period < l → (w : ℕ) → queueing_delay faults fs f cs q ≡ Some w → distance f a + q * f.period ≤ w
    unfolding window_load delay_load demand
    released-in-time q released w e = let early : ¬ (w < distance f a + q * f.period) = too-soon in omega arith
      where
        too-soon : ¬ (w < distance f a + q * f.period)
        too-soon less =
            let few = mul-le-mul_left f.length (count-le (distance f a) self.period (suc w) q less) in
            let load = work-own valid inside a (suc w) cs own in
            let next : suc w ≤ w + f.length = omega (arith, self.length) in
            let cut = fault-mono next faults fs f in
            omega (arith, delay-at faults fs f cs q w e, window-least faults fs f cs l (suc w) window (omega arith) (omega (arith, delay-at faults fs f cs q w e)))

    -- So its response is not cut at 0.
    pub response-whole : (q : ℕ) → distance f a + q * f.period < l → (w : ℕ) → queueing_delay faults fs f cs q ≡ Some w
        → instance_response faults fs f cs q + (distance f a + q * f.period) ≡ w + f.length
    unfolding instance_response
    response-whole q released w e = omega (arith, released-in-time q released w e, ap or_zero e, own-distance fs f cs a own)

    -- Its response is at most the window.
    pub instance-le : (q : ℕ) → distance f a + q * f.period < l → instance_response faults fs f cs q ≤ l
    unfolding instance_response
    instance-le q released = let (w, e, le) = delay-within q released in omega (arith, ap or_zero e)

    -- The instances that the response time goes through are those released in the window.
    pub listed-released : {q : ℕ} → Mem q (range 0 (releases_before (own_distance f cs) f.period l)) → distance f a + q * f.period < l
    listed-released {q} m =
        let (low, high) = of_range 0 _ m in
        let few : q < releases_before (own_distance f cs) f.period l = omega arith in
        (counted (distance f a) self.period l q).0 (rw (own-distance fs f cs a own) at few)

    -- And those released in the window are these.
    pub released-listed : (q : ℕ) → distance f a + q * f.period < l → Mem q (range 0 (releases_before (own_distance f cs) f.period l))
    released-listed q released =
        let few = (counted (distance f a) self.period l q).1 released in
        mem-range 0 _ q (omega arith) (rw (own-distance fs f cs a own) (omega arith))

    -- Each has a response of at most the response time.
    pub instance-response : (q : ℕ) → distance f a + q * f.period < l → instance_response faults fs f cs q ≤ scenario_response faults fs f cs
    unfolding response_time
    instance-response q released = rw (response-at faults fs f cs l window) (le-greatest (instance_response faults fs f cs) (released-listed q released))

    -- The response time is at most the window.
    pub response-le : scenario_response faults fs f cs ≤ l
    unfolding response_time
    response-le = rw (response-at faults fs f cs l window) (greatest-le _ (λ q m. instance-le q (listed-released m)))

  -- ---- a scenario and one that refines it

  module _ (faults : Faults) (cs cs' : List Choice) (refines : RefinedBy fs f cs cs') (l : ℕ) (window : busy_window faults fs f cs ≡ Some l) where
    -- The other has a window too, which is not longer.
    pub window-refine : (l' : ℕ) × (busy_window faults fs f cs' ≡ Some l') × (l' ≤ l)
    unfolding window_load
    window-refine =
        let (low, high, fits) = window-at faults fs f cs l window in
        window-found faults fs f cs' l low high (omega (arith, work-refine valid f (λ g m. m) cs cs' refines l))

    -- An instance's response is not greater than the first one's response time, if both fix the frame's own alignment.
    instance-refine : (a : ℕ) → choice_of cs f.group ≡ Fixed a → choice_of cs' f.group ≡ Fixed a
        → (q : ℕ) → distance f a + q * f.period < l → instance_response faults fs f cs' q ≤ scenario_response faults fs f cs
    unfolding instance_response delay_load
    instance-refine a own own' q released =
        let (w, e, le) = delay-within faults cs a own l window q released in
        let (low, high, fits) = window-at faults fs f cs l window in
        let less = work-refine valid f (better-ahead fs f) cs cs' refines (suc w) in
        let (v, e', le') = delay-found faults fs f cs' q w (omega (arith, self.length)) (omega (arith, delay-at faults fs f cs q w e)) in
        let bound = instance-response faults cs a own l window q released in
        omega (arith, ap or_zero e, ap or_zero e', own-distance fs f cs a own, own-distance fs f cs' a own')

    -- So its response time is not greater.
    pub response-refine : (a : ℕ) → choice_of cs f.group ≡ Fixed a → choice_of cs' f.group ≡ Fixed a → scenario_response faults fs f cs' ≤ scenario_response faults fs f cs
    unfolding response_time
    response-refine a own own' =
        let (l', window', shorter) = window-refine in
        rw (response-at faults fs f cs' l' window')
        (greatest-le _ (λ q m. let released = listed-released faults cs' a own' l' window' m in instance-refine a own own' q (omega arith)))
