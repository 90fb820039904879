-- The bounds of a frame k of the table fs (document 01, "The bounds"), under a premise about faults (document 02, request 9), which is
-- `Never` in document 01.
-- The precise and the approximate bound take the greatest response over scenarios; they differ only in which scenarios these are.
use Rattle.std.specs.Prelude.{ℕ, suc, ◌+◌, ◌-◌, ◌*◌, ◌%◌, List, [], ◌∷◌, map, Bool, true, false, ◌&&◌, leb, ltb, eqb, length, get_or, Option, Some, None}
use Rattle.arith.specs.Lists.{sum, product, greatest, keep, exists, range, combinations}
use Rattle.arith.specs.Least.{least, or_zero}
use Rattle.arith.specs.Releases.{releases_before}
use Rattle.bus_model.specs.Pattern.{of_group, hyperperiod}
use Rattle.bus_model.specs.Bus.{signalling}
use Rattle.bus_model.specs.declared.Frame.{Frame}
use Rattle.bus_model.specs.declared.Faults.{Faults}
use Rattle.bus_model.specs.declared.Faults.TheVariants.{Never, Apart}
use Rattle.bus_model.specs.declared.Choice.{Choice}
use Rattle.bus_model.specs.declared.Choice.TheVariants.{Fixed, Any}

-- groups are 1 to 16
abbrev pub groups : ℕ
groups = 16

-- the longest window that is looked for (document 01, "Judgement": "no L up to 1000000")
unfoldable pub window_limit : ℕ
window_limit = 1000000

-- ---- frames by priority, document 01's "rank"

-- "ahead": k and all frames of better rank
abbrev pub is_ahead : Frame → Frame → Bool
is_ahead k g = leb g.priority k.priority

-- "better": without k
abbrev pub is_better : Frame → Frame → Bool
is_better k g = ltb g.priority k.priority

-- ranks below k
abbrev pub is_below : Frame → Frame → Bool
is_below k g = ltb k.priority g.priority

-- the frames of the table that pass each test
unfoldable pub ahead : List Frame → Frame → List Frame
ahead fs k = keep (is_ahead k) fs

unfoldable pub better : List Frame → Frame → List Frame
better fs k = keep (is_better k) fs

unfoldable pub below : List Frame → Frame → List Frame
below fs k = keep (is_below k) fs

-- "Blocking" B: 0 if no frame ranks below k, otherwise the greatest C below it, minus 1
unfoldable pub blocking : List Frame → Frame → ℕ
blocking fs k = greatest (λ g. g.length) (below fs k) - 1

-- ---- faults

-- "F is 31 plus the greatest largest length among the frames ahead": what a fault costs at most
unfoldable pub fault_time : List Frame → Frame → ℕ
fault_time fs k = signalling + greatest (λ g. g.length) (ahead fs k)

-- "ceil(n/G) × F": what the faults that begin in n ticks cost at most; ceil(n/g) is how many of 0, g, 2g, .. are below n
unfoldable pub fault_load : Faults → List Frame → Frame → ℕ → ℕ
fault_load Never fs k n = 0
fault_load (Apart g) fs k n = releases_before 0 g n * fault_time fs k

-- ---- alignments

-- o as the bounds read it: o mod p, which is o itself where o is below p
unfoldable pub phase : Frame → ℕ
phase g = g.offset % g.period

-- a is an instant o + m×p of the frame
unfoldable pub is_released_at : ℕ → Frame → Bool
is_released_at a g = leb (phase g) a && eqb ((a - phase g) % g.period) 0

-- "Alignments" of group j: the distinct instants below its hyperperiod of its frames ahead, rising
unfoldable pub alignments : List Frame → Frame → ℕ → List ℕ
alignments fs k j = keep (λ a. exists (is_released_at a) (of_group (ahead fs k) j)) (range 0 (hyperperiod (of_group fs j)))

-- "Distance" at alignment a: (o - a) mod p
unfoldable pub distance : Frame → ℕ → ℕ
distance g a = (phase g + (g.period - a % g.period)) % g.period

-- ---- scenarios

-- A "scenario" is a list of choices for the groups from 1 on: `Fixed a`, one alignment, or `Any`, as the rough bound
-- has every other group. The choice for group j.
abbrev pub choice_of : List Choice → ℕ → Choice
choice_of cs j = get_or cs (j - 1) Any

-- the "one empty alignment" of a group that has none: it counts as 1, and has no work
unfoldable pub or_empty : List ℕ → List ℕ
or_empty [] = 0 ∷ []
or_empty (a ∷ more) = a ∷ more

-- the choices for group j: each of its alignments where it is fixed, `Any` where it is not
unfoldable pub choices : List Frame → Frame → Bool → ℕ → List Choice
choices fs k true j = map Fixed (or_empty (alignments fs k j))
choices fs k false j = Any ∷ []

-- the scenarios in which the groups that `fixes` names take each of their alignments
unfoldable pub scenarios : List Frame → Frame → (ℕ → Bool) → List (List Choice)
scenarios fs k fixes = combinations (map (λ j. choices fs k (fixes j) j) (range 1 groups))

-- k's own group alone
abbrev pub own_group : Frame → ℕ → Bool
own_group k j = eqb j k.group

-- every group
abbrev pub every_group : ℕ → Bool
every_group j = true

-- ---- work

-- the C's of the frame's releases in 0..n-1, at alignment a: it is "queued at d, d+p, d+2p, ..."
unfoldable pub demand : Frame → ℕ → ℕ → ℕ
demand g a n = g.length * releases_before (distance g a) g.period n

-- those of all the frames
unfoldable pub work_at : List Frame → ℕ → ℕ → ℕ
work_at gs a n = sum (λ g. demand g a n) gs

-- those of a group's frames gs, by the choice for the group, whose alignments are als; at `Any` "the greatest sum
-- that any of its alignments gives", separately at each n
unfoldable pub group_work : List Frame → List ℕ → Choice → ℕ → ℕ
group_work gs als (Fixed a) n = work_at gs a n
group_work gs als Any n = greatest (λ a. work_at gs a n) als

-- those of the frames gs of all groups, in a scenario
unfoldable pub work : List Frame → Frame → List Frame → List Choice → ℕ → ℕ
work fs k gs cs n = sum (λ j. group_work (of_group gs j) (alignments fs k j) (choice_of cs j) n) (range 1 groups)

-- ---- the busy window and the response times of a scenario

-- k's own distance d; the bounds fix k's own group
unfoldable pub own_distance : Frame → List Choice → ℕ
own_distance k cs = elim (choice_of cs k.group) [ Fixed a ↦ distance k a | Any ↦ 0 ]

module _ (faults : Faults) where
  -- B plus the C's of all frames ahead that are queued in 0..l-1; "the window's sum gains ceil(L/G) × F"
  unfoldable pub window_load : List Frame → Frame → List Choice → ℕ → ℕ
  window_load fs k cs l = blocking fs k + work fs k (ahead fs k) cs l + fault_load faults fs k l

  -- "window" L: the least l, 1 or more, whose load is at most l
  unfoldable pub busy_window : List Frame → Frame → List Choice → Option ℕ
  busy_window fs k cs = least (λ l. leb (window_load fs k cs l) l) window_limit 1

  -- B + q×C of k + the C's of better frames queued in 0..w, where one queued at w still wins; document 01's q is this one plus 1;
  -- "the start's sum gains ceil((w + C of k)/G) × F"
  unfoldable pub delay_load : List Frame → Frame → List Choice → ℕ → ℕ → ℕ
  delay_load fs k cs q w = blocking fs k + q * k.length + work fs k (better fs k) cs (suc w) + fault_load faults fs k (w + k.length)

  -- "start" of instance q of k: the least w, 0 or more, whose load is at most w; each instance of a window has one below the limit
  -- (Theory/Response.antt, delay-within)
  unfoldable pub queueing_delay : List Frame → Frame → List Choice → ℕ → Option ℕ
  queueing_delay fs k cs q = least (λ w. leb (delay_load fs k cs q w) w) window_limit 0

  -- "response" of instance q of k: w + C of k - d - q×p, which is never cut at 0 (Theory/Response.antt, response-whole)
  unfoldable pub instance_response : List Frame → Frame → List Choice → ℕ → ℕ
  instance_response fs k cs q = or_zero (queueing_delay fs k cs q) + k.length - (own_distance k cs + q * k.period)

  -- the greatest response of the instances whose queueing d + q×p is below l
  unfoldable pub response_time : List Frame → Frame → List Choice → ℕ → ℕ
  response_time fs k cs l = greatest (instance_response fs k cs) (range 0 (releases_before (own_distance k cs) k.period l))

  -- that of the scenario's window, 0 where it has none
  unfoldable pub scenario_response : List Frame → Frame → List Choice → ℕ
  scenario_response fs k cs = elim (busy_window fs k cs) [ Some l ↦ response_time fs k cs l | None ↦ 0 ]

  -- ---- the bounds

  -- the greatest response over the scenarios in which the groups that `fixes` names take each of their alignments
  unfoldable pub bound_of : List Frame → Frame → (ℕ → Bool) → ℕ
  bound_of fs k fixes = greatest (scenario_response fs k) (scenarios fs k fixes)

  -- "Exact bound": the greatest response over all scenarios and q
  abbrev pub precise_bound : List Frame → Frame → ℕ
  precise_bound fs k = bound_of fs k every_group

  -- "Rough bound": k's own group takes each of its alignments in turn, every other group stands at `Any`
  abbrev pub approximate_bound : List Frame → Frame → ℕ
  approximate_bound fs k = bound_of fs k (own_group k)

-- "Scenario count": the product of the groups' numbers of alignments, empty ones counting 1
unfoldable pub scenario_count : List Frame → Frame → ℕ
scenario_count fs k = product (λ j. length (or_empty (alignments fs k j))) (range 1 groups)
