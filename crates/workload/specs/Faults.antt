-- The faults of a premise (document 02, request 9), as the searches count them.
use denote.Struct.Props as logic
use Rattle.std.specs.Prelude.{ℕ, ◌-◌, ◌≤◌, List}
use Rattle.arith.specs.Releases.{releases_before}
use Rattle.bus_model.specs.declared.Frame.{Frame}
use Rattle.bus_model.specs.declared.Faults.{Faults}
use Rattle.bus_model.specs.declared.Faults.TheVariants.{Never, Apart}
use Rattle.bus_model.specs.Bounds.{fault_time}
use Rattle.workload.specs.declared.Search.{Search}
use Rattle.workload.specs.declared.Search.TheVariants.{Window, Instance}
use Rattle.workload.specs.declared.Target.{Target}

-- what one costs at most: nothing, where none ever begins
unfoldable pub cost_of : Faults → List Frame → Frame → ℕ
cost_of Never fs k = 0
cost_of (Apart g) fs k = fault_time fs k

-- how many begin in n ticks at most
unfoldable pub faults_in : Faults → ℕ → ℕ
faults_in Never n = 0
faults_in (Apart g) n = releases_before 0 g n

-- For so many ticks more than releases does a search count faults: a start's "ceil((w + C of k)/G)" looks at w + C of k ticks, where the
-- better frames' releases are those of w + 1.
unfoldable pub lead_of : Search → Frame → ℕ
lead_of Window k = 0
lead_of (Instance q) k = k.length - 1

-- ---- limits

-- those of a premise
unfoldable pub FineFaults : Faults → Type 0
FineFaults Never = Unit {0}
FineFaults (Apart g) = (1 ≤ g) × (g ≤ 1000000)

-- which is a fact
pub FineFaults-prop : (f : Faults) → IsProp (FineFaults f)
unfolding FineFaults
FineFaults-prop Never = Prim.hlevel logic.props
FineFaults-prop (Apart g) = Prim.hlevel logic.props

-- the facts of this module in a ghost field
pub ruleset props = (logic.props, FineFaults-prop)

-- and of a frame that is judged
pub record FineTarget (t : Target) : Type 0 where
  pub long : 1 ≤ t.frame.length
  pub short : t.frame.length ≤ 400
  pub premise : FineFaults t.faults
  pub cost : t.cost ≤ 431
