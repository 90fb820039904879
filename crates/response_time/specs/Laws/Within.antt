-- A scenario no response of which exceeds a number, as a sweep over the instances finds it.
use Rattle.std.specs.Prelude.{ℕ, ◌+◌, ◌-◌, ◌*◌, ◌≤◌, ◌<◌, min, ◌≡◌, refl, List, Bool, true, false, cond, ltb, Some, None}
use Rattle.std.proofs.Math.Path.{ap}
use Rattle.std.proofs.Common.{arith, le-mul_of_pos_right, add-mul, add-one, ltb-false}
use Rattle.std.proofs.Math.Decide.{dec_lt}
use Rattle.arith.specs.Least.{or_zero}
use Rattle.arith.specs.Releases.{releases_before}
use Rattle.arith.specs.Laws.Members.{of_range}
use Rattle.arith.specs.Laws.Sums.{greatest-le}
use Rattle.arith.specs.Laws.Releases.{counted, count-mono}
use Rattle.bus_model.specs.declared.Frame.{Frame}
use Rattle.bus_model.specs.declared.Faults.{Faults}
use Rattle.bus_model.specs.declared.Choice.{Choice}
use Rattle.bus_model.specs.Bounds.{window_limit, blocking, busy_window, delay_load, own_distance, instance_response, response_time, scenario_response}
use Rattle.bus_model.specs.Valid.{Valid}
use Rattle.bus_model.specs.Theory.Work.{RefinedBy}
use Rattle.bus_model.proofs.Theory.Response.{response-at, delay-found}
use Rattle.workload.specs.declared.Search.TheVariants.{Instance}
use Rattle.workload.specs.declared.Target.{Target}
use Rattle.workload.specs.Prepared.{FineTable, InTable}
use Rattle.workload.specs.Faults.{cost_of, lead_of, FineTarget}
use Rattle.workload.specs.Placed.{Placed, placed_out}
use Rattle.workload.proofs.Laws.Placed.{better-above}
use Rattle.response_time.specs.Load.{latest_start, base_of, waits_of, WindowWithin, Shows, ShowsPlaced, ShownWithin, Reaches, Swept}
use Rattle.response_time.specs.Laws.Searches.{placed-load, load-finer}
use Rattle.workload.proofs.Laws.Fine.{in-table-fine}

-- From the latest start the response is not above `best`, and it is below the window's limit.
pub latest-start-fits : (best length released : ℕ) {latest : ℕ} → latest_start best length released ≡ Some latest → (latest + length ≤ best + released) × (latest < 1000000)
unfolding latest_start
latest-start-fits best length released {latest} = go (ltb (best + released) length) refl
  where
    go : (b : Bool) → ltb (best + released) length ≡ b → cond b None (Some (min (best + released - length) 999999)) ≡ Some latest
        → (latest + length ≤ best + released) × (latest < 1000000)
    go true t e = let z : ◌≡◌ {A = ℕ} 0 1 = cc in absurd (omega arith)
    go false t e =
        let same : min (best + released - length) 999999 ≡ latest = cc in
        let enough = ltb-false (best + released) length t in
        (omega arith, omega arith)

-- A start shows it of as many instances as its load, or a bound of that, leaves room for.
pub shows : (faults : Faults) (fs : List Frame) (k : Frame) (cs : List Choice) (q x : ℕ) {needed count latest : ℕ} → delay_load faults fs k cs q x ≤ needed
    → ((i : ℕ) → i < count → needed + i * k.length ≤ x) → x ≤ latest → Shows faults fs k cs q latest x count
unfolding delay_load
shows faults fs k cs q x le each inside i less = (inside, omega (arith, each i less, add-mul q i k.length))

-- So it does by the work of what is placed.
pub shows-placed : {fs : List Frame} → FineTable fs → {t : Target} → FineTarget t → t.blocked ≡ blocking fs t.frame → t.cost ≡ cost_of t.faults fs t.frame → (cs : List Choice) (q : ℕ)
    {base latest start count : ℕ} → {gs : List Placed} → gs ≡ placed_out fs t (Instance q) cs → base ≡ waits_of t (Instance q)
    → ShowsPlaced gs t.frame.length base latest start count → Shows t.faults fs t.frame cs q latest start count
unfolding delay_load base_of lead_of
shows-placed {fs} table {t} fine blocks cost cs q {start = start} is waits shown i less =
    let k = t.frame in
    let (inside, le) = shown i less in
    let load = placed-load fs fine cost (Instance q) cs (start + 1) in
    let ended : start + 1 + (k.length - 1) ≡ start + k.length = omega (arith, fine.long) in
    (inside, rw (← add-one start) (omega (arith, rw (is, waits) at le, rw ended at load, better-above table k cs q (start + 1), add-mul q i k.length, blocks)))

-- The release of an instance in the first million ticks and its number are small.
pub instance-fits : {fs : List Frame} {k : Frame} → FineTable fs → InTable fs k → (d : ℕ) {l q instances : ℕ}
    → instances ≡ releases_before d k.period l → l ≤ 1000000 → q < instances → (d + q * k.period < 1000000) × (q < 1000000)
instance-fits {fs} {k} accepted listed d {l = l} {q} number small inside =
    let f = in-table-fine fs accepted listed in
    let released = (counted d f.period-low l q).0 (rw number at inside) in
    let few : q < 1000000 = omega (arith, le-mul_of_pos_right q f.period-low) in
    (omega arith, few)

module _ (faults : Faults) (fs : List Frame) (k : Frame) (cs : List Choice) where
  -- Where an instance may start at x, which leaves it a response of `best` at the most, it has no greater one: it starts no later.
  pub shown-response : (q best : ℕ) → ShownWithin faults fs k cs best q → instance_response faults fs k cs q ≤ best
  unfolding instance_response window_limit
  shown-response q best t =
      let (w, e, first) = delay-found faults fs k cs q t.start t.inside t.holds in
      omega (arith, ap or_zero e, t.fits)

  -- The instances that a start shows it of: those after the first are released later.
  pub shows-within : (q best : ℕ) {latest start count : ℕ} → latest_start best k.length (own_distance k cs + q * k.period) ≡ Some latest
      → Shows faults fs k cs q latest start count → (i : ℕ) → i < count → ShownWithin faults fs k cs best (q + i)
  shows-within q best {start = start} latest-is shown i less =
      let (fits, inside) = latest-start-fits best k.length (own_distance k cs + q * k.period) latest-is in
      let (le, t) = shown i less in
      record { start = start; inside = omega arith; fits = omega (arith, add-mul q i k.period); holds = t }

  -- Where it is shown of each instance released in the window, the scenario has no response above `best`.
  pub reach-none : {best : ℕ} → Reaches faults fs k cs best 0 → scenario_response faults fs k cs ≤ best
  unfolding response_time
  reach-none r =
      rw (response-at faults fs k cs r.window r.is)
      (greatest-le _ (λ i m. let (low, high) = of_range 0 _ m in shown-response i _ (r.shown i (omega arith) (omega arith))))

-- ---- up to which instance it is not shown

-- At first it is shown of none that is released up to a limit of the window.
pub reach-all : {faults : Faults} {fs : List Frame} {k : Frame} → FineTable fs → InTable fs k → (cs : List Choice) {limit reach : ℕ} → WindowWithin faults fs k cs limit
    → reach ≡ releases_before (own_distance k cs) k.period limit → (best : ℕ) → Reaches faults fs k cs best reach
reach-all {fs = fs} {k = k} accepted listed cs {limit} w number best =
    let f = in-table-fine fs accepted listed in
    record {
      window = w.window;
      is = w.is;
      early = λ q less. omega (arith, (counted (own_distance k cs) f.period-low limit q).0 (rw number at less), w.small);
      shown = λ q over less. absurd (omega (arith, number, count-mono (own_distance k cs) f.period-low w.within));
    }

module _ {faults : Faults} {fs : List Frame} {k : Frame} {cs : List Choice} {best : ℕ} where
  -- What is shown of an instance still is where more is allowed,
  shown-more : {q best' : ℕ} → best ≤ best' → ShownWithin faults fs k cs best q → ShownWithin faults fs k cs best' q
  shown-more le t = record { start = t.start; inside = t.inside; fits = omega (arith, t.fits); holds = t.holds }

  -- and where more groups are fixed, k's own being as it was.
  shown-finer : Valid fs → {cs' : List Choice} → RefinedBy fs k cs cs' → own_distance k cs' ≡ own_distance k cs → {q : ℕ} → ShownWithin faults fs k cs best q → ShownWithin faults fs k cs' best q
  shown-finer valid {cs'} finer same {q} t = record {
    start = t.start;
    inside = t.inside;
    fits = rw same t.fits;
    holds = omega (arith, t.holds, load-finer faults valid k cs cs' finer (Instance q) t.start);
  }

  -- What is shown still is where more is allowed,
  pub reach-more : {best' reach : ℕ} → best ≤ best' → Reaches faults fs k cs best reach → Reaches faults fs k cs best' reach
  reach-more le r = record { window = r.window; is = r.is; early = r.early; shown = λ q over less. shown-more le (r.shown q over less) }

  -- and where more groups are fixed, k's own being as it was: the window is no longer.
  pub reach-finer : Valid fs → 1 ≤ k.period → {cs' : List Choice} → RefinedBy fs k cs cs' → own_distance k cs' ≡ own_distance k cs → {reach window : ℕ} → (r : Reaches faults fs k cs best reach)
      → busy_window faults fs k cs' ≡ Some window → window ≤ r.window → Reaches faults fs k cs' best reach
  reach-finer valid some {cs'} finer same {reach} {window} r is shorter = record {
    window = window;
    is = is;
    early = λ q less. rw same (r.early q less);
    shown = λ q over less. shown-finer valid finer same (r.shown q over (omega (arith, count-mono (own_distance k cs) some shorter, rw same at less)));
  }

  -- It starts with none,
  pub swept_none : {reach q : ℕ} → q ≤ reach → Swept faults fs k cs best reach q q
  swept_none le = record { before = omega arith; inside = omega arith; each = λ i low less. absurd (omega arith) }

  -- passes those of which it is shown,
  pub swept-shown : {reach last q next : ℕ} → Swept faults fs k cs best reach last q → q < next → ((i : ℕ) → q ≤ i → i < next → ShownWithin faults fs k cs best i)
      → Swept faults fs k cs best reach last (min next reach)
  swept-shown {q = q} s more each = record {
    before = omega (arith, s.before, s.inside);
    inside = omega arith;
    each = λ i low l.
        elim (dec_lt i q) [
          | yes earlier ↦ s.each i low earlier
          | no later ↦ each i (omega arith) (omega arith)
        ];
  }

  -- goes on as another one does from there,
  pub swept_on : {reach last q next : ℕ} → Swept faults fs k cs best reach last q → Swept faults fs k cs best reach q next → Swept faults fs k cs best reach last next
  swept_on {q = q} s t = record {
    before = omega (arith, s.before, t.before);
    inside = t.inside;
    each = λ i low l.
        elim (dec_lt i q) [
          | yes earlier ↦ s.each i low earlier
          | no later ↦ t.each i (omega arith) l
        ];
  }

  -- and passes one of which it is not.
  pub swept-missed : {reach q : ℕ} → q < reach → Swept faults fs k cs best reach (q + 1) (q + 1)
  swept-missed less = record { before = omega arith; inside = omega arith; each = λ i low l. absurd (omega arith) }

  -- At the end it reaches no further.
  pub swept_all : {reach last q : ℕ} → Reaches faults fs k cs best reach → Swept faults fs k cs best reach last q → reach ≤ q → Reaches faults fs k cs best last
  swept_all {reach} {last} {q} r s over = record {
    window = r.window;
    is = r.is;
    early = λ i less. r.early i (omega (arith, s.before, s.inside));
    shown = λ i low less.
        elim (dec_lt i q) [
          | yes earlier ↦ s.each i low earlier
          | no later ↦ r.shown i (omega arith) less
        ];
  }
