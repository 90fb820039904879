-- The load that a busy window must hold, and that a start must allow for, as one search has them; and starts that show a response to be small.
use Rattle.std.specs.Prelude.{ℕ, suc, ◌+◌, ◌-◌, ◌*◌, ◌≤◌, ◌<◌, min, ◌≡◌, List, Bool, cond, leb, ltb, Option, Some, None}
use Rattle.arith.specs.Releases.{releases_before}
use Rattle.bus_model.specs.declared.Frame.{Frame}
use Rattle.bus_model.specs.declared.Faults.{Faults}
use Rattle.bus_model.specs.declared.Choice.{Choice}
use Rattle.bus_model.specs.declared.Choice.TheVariants.{Fixed}
use Rattle.bus_model.specs.Bounds.{ahead, better, blocking, choice_of, work, window_load, busy_window, delay_load, own_distance, instance_response}
use Rattle.workload.specs.declared.Search.{Search}
use Rattle.workload.specs.declared.Search.TheVariants.{Window, Instance}
use Rattle.workload.specs.declared.Target.{Target}
use Rattle.workload.specs.Prepared.{FineTable, InTable}
use Rattle.workload.specs.Faults.{faults_in, lead_of}
use Rattle.workload.specs.Placed.{Placed, placed_work}

-- ---- what is looked for

-- the load of x: of a busy window of that length, or of a start there
abbrev pub load_of : Faults → List Frame → Frame → List Choice → Search → ℕ → ℕ
load_of faults fs k cs Window x = window_load faults fs k cs x
load_of faults fs k cs (Instance q) x = delay_load faults fs k cs q x

-- that of the frames alone, without faults
abbrev pub frame_load : List Frame → Frame → List Choice → Search → ℕ → ℕ
frame_load fs k cs Window x = blocking fs k + work fs k (ahead fs k) cs x
frame_load fs k cs (Instance q) x = blocking fs k + q * k.length + work fs k (better fs k) cs (suc x)

-- whether x holds its load
unfoldable pub holds : Faults → List Frame → Frame → List Choice → Search → ℕ → Bool
holds faults fs k cs search x = leb (load_of faults fs k cs search x) x

-- k's own group has a fixed alignment
abbrev pub OwnFixed : Frame → List Choice → Type 0
OwnFixed k cs = (a : ℕ) × (choice_of cs k.group ≡ Fixed a)

-- what a search may be asked for: an instance, of a million at the most, only where k's own group is fixed
abbrev pub Asked : Frame → List Choice → Search → Type 0
Asked k cs Window = Unit {0}
Asked k cs (Instance q) = OwnFixed k cs × (q ≤ 1000000)

-- ---- the same of placed frames

-- what is waited for besides the work of the frames and the faults,
unfoldable pub base_of : ℕ → Frame → Search → ℕ
base_of blocked k Window = blocked
base_of blocked k (Instance q) = blocked + q * k.length

-- and besides that of all that is placed: the faults in the lead too,
unfoldable pub waits_of : Target → Search → ℕ
waits_of t search = base_of t.blocked t.frame search + faults_in t.faults (lead_of search t.frame) * t.cost

-- up to so many ticks after x: a start looks at the better frames released at x itself too
abbrev pub shift_of : Search → ℕ
shift_of Window = 0
shift_of (Instance q) = 1

-- whether x holds both
unfoldable pub placed_holds : List Placed → ℕ → ℕ → ℕ → Bool
placed_holds gs shift base x = leb (base + placed_work gs (x + shift)) x

-- the scenario has a window, and it is not longer than that
pub record WindowWithin (faults : Faults) (fs : List Frame) (k : Frame) (cs : List Choice) (limit : ℕ) : Type 0 where
  pub window : ℕ
  pub is : busy_window faults fs k cs ≡ Some window
  pub within : window ≤ limit
  pub small : limit ≤ 1000000

-- ---- starts: one that holds its load shows that the response is no greater than it would be from there

-- the latest start below the window's limit with a response of `best` at the most, of an instance of that length and release
unfoldable pub latest_start : ℕ → ℕ → ℕ → Option ℕ
latest_start best length released = cond (ltb (best + released) length) None (Some (min (best + released - length) 999999))

-- a start shows it of so many instances from q on: it is no later than `latest`, and holds the load of each, where one more waits for one more length
abbrev pub Shows : Faults → List Frame → Frame → List Choice → ℕ → ℕ → ℕ → ℕ → Type 0
Shows faults fs k cs q latest start count = (i : ℕ) → i < count → (start ≤ latest) × (delay_load faults fs k cs (q + i) start ≤ start)

-- the same by the work of placed frames, which is not below the load
abbrev pub ShowsPlaced : List Placed → ℕ → ℕ → ℕ → ℕ → ℕ → Type 0
ShowsPlaced gs length base latest start count = (i : ℕ) → i < count → (start ≤ latest) × (base + i * length + placed_work gs (start + 1) ≤ start)

-- instance q is shown to have a response of `best` at the most
pub record ShownWithin (faults : Faults) (fs : List Frame) (k : Frame) (cs : List Choice) (best q : ℕ) : Type 0 where
  pub start : ℕ
  pub inside : start < 1000000
  pub fits : start + k.length ≤ best + (own_distance k cs + q * k.period)
  pub holds : delay_load faults fs k cs q start ≤ start

-- There is a window, and it is shown of each instance from `reach` on that is released in it; those before it are released in the first million ticks.
pub record Reaches (faults : Faults) (fs : List Frame) (k : Frame) (cs : List Choice) (best reach : ℕ) : Type 0 where
  pub window : ℕ
  pub is : busy_window faults fs k cs ≡ Some window
  pub early : (q : ℕ) → q < reach → own_distance k cs + q * k.period < 1000000
  pub shown : (q : ℕ) → reach ≤ q → q < releases_before (own_distance k cs) k.period window → ShownWithin faults fs k cs best q

-- The instances before q are passed: it is shown of those from `last` on.
pub record Swept (faults : Faults) (fs : List Frame) (k : Frame) (cs : List Choice) (best reach last q : ℕ) : Type 0 where
  pub before : last ≤ q
  pub inside : q ≤ reach
  pub each : (i : ℕ) → last ≤ i → i < q → ShownWithin faults fs k cs best i

-- ---- the instances released in a busy window, in turn

-- The window of a scenario that fixes k's own group: its length is l, and k is released so often in it.
pub record Windowed (faults : Faults) (fs : List Frame) (k : Frame) (cs : List Choice) (l instances : ℕ) : Type 0 where
  pub accepted : FineTable fs
  pub listed : InTable fs k
  pub fixed : OwnFixed k cs
  pub window : busy_window faults fs k cs ≡ Some l
  pub number : instances ≡ releases_before (own_distance k cs) k.period l

-- no delay of instance q is below `from`
abbrev pub Later : Faults → List Frame → Frame → List Choice → ℕ → ℕ → Type 0
Later faults fs k cs from q = (w : ℕ) → delay_load faults fs k cs q w ≤ w → from ≤ w

-- it is instance q's turn, or there are no more
pub record Due (faults : Faults) (fs : List Frame) (k : Frame) (cs : List Choice) (instances from q : ℕ) : Type 0 where
  pub window : ℕ
  pub windowed : Windowed faults fs k cs window instances
  pub inside : q ≤ instances
  pub later : Later faults fs k cs from q

-- no response from instance q on is above `best`, up to another
abbrev pub NoneAbove : Faults → List Frame → Frame → List Choice → ℕ → ℕ → ℕ → Type 0
NoneAbove faults fs k cs best q end = (i : ℕ) → q ≤ i → i < end → instance_response faults fs k cs i ≤ best

-- From q on such instances are passed over, up to one: that has the response, and it is the turn of `next`, after it.
pub record Meets (faults : Faults) (fs : List Frame) (k : Frame) (cs : List Choice) (instances best q response from next : ℕ) : Type 0 where
  pub met : ℕ
  pub after : next ≡ met + 1
  pub reached : q ≤ met
  pub inside : met < instances
  pub passed : NoneAbove faults fs k cs best q met
  pub is : response ≡ instance_response faults fs k cs met
  pub later : Later faults fs k cs from next
