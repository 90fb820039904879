-- The last frame's worst case (document 02, request 14): the starts, the lengths and the instance with which its precise
-- bound is its response time. Theory/Reached.antt proves that it is.
use Rattle.std.specs.Prelude.{ℕ, ◌+◌, ◌-◌, ◌≤◌, ◌<◌, ◌≡◌, Bool, leb, Option, length, get_or, is_none}
use mathlib.Core.List.{List, map, Memᴰ as Mem}
use Rattle.arith.specs.Lists.{greatest}
use Rattle.arith.specs.Least.{least, or_zero}
use Rattle.arith.specs.Releases.{releases_before}
use Rattle.bus_model.specs.Frame.{row}
use Rattle.bus_model.specs.Release.{release}
use Rattle.bus_model.specs.Bus.{Transmission, Schedule}
use Rattle.bus_model.specs.Bounds.{precise_bound}
use Rattle.bus_model.specs.Case.{alignments_of, instance_of, first_case}
use Rattle.bus_model.specs.declared.Frame.{Frame}
use Rattle.bus_model.specs.declared.Faults.TheVariants.{Never}
use Rattle.bus_model.specs.declared.Case.{Case}

-- ---- the frame that ranks last

-- "the frame that ranks last": no row has a greater priority number
abbrev pub RanksLast : List Frame → ℕ → Type 0
RanksLast fs k = (i : ℕ) → i < length fs → (row fs i).priority ≤ (row fs k).priority

-- its row: the first whose priority number is the greatest
unfoldable pub last_row : List Frame → ℕ
last_row fs = let most = greatest (λ g. g.priority) fs in or_zero (least (λ i. leb most (row fs i).priority) (length fs) 0)

-- whether every offset is below its period, which `Early` says: no row has its offset at its period or above
unfoldable pub all_early : List Frame → Bool
all_early fs = is_none (least (λ i. leb (row fs i).period (row fs i).offset) (length fs) 0)

-- ---- the starts and the instance

-- The worst case is the first that breaks a claim of a tick less than the precise bound (Case.antt): a scenario in which a response is
-- that bound, and the number of the instance whose response it is.
unfoldable pub worst_case : List Frame → Frame → Option Case
worst_case fs k = first_case Never fs k (precise_bound Never fs k - 1)

-- of a list of 16 numbers, one for each group from 1 on, that of group j
abbrev pub for_group : List ℕ → ℕ → ℕ
for_group xs j = get_or xs (j - 1) 0

-- the tick at which every group stands at its alignment, if each starts so many ticks before: the greatest alignment
unfoldable pub meeting_tick : List ℕ → ℕ
meeting_tick als = greatest (λ a. a) als

-- these starts
unfoldable pub starts_of : List ℕ → List ℕ
starts_of als = let meeting = meeting_tick als in map (λ a. meeting - a) als

unfoldable pub worst_starts : List Frame → Frame → List ℕ
worst_starts fs k = starts_of (alignments_of (worst_case fs k))

-- which instance of k is number q, from 1, of those released at the meeting tick or later, where its group's alignment is a
unfoldable pub instance_from : Frame → ℕ → ℕ → ℕ
instance_from k a q = releases_before k.offset k.period a + (q - 1)

unfoldable pub worst_instance : List Frame → Frame → ℕ
worst_instance fs k = let c = worst_case fs k in instance_from k (for_group (alignments_of c) k.group) (instance_of c)

-- ---- the statement

-- every transmission has its frame's largest length
abbrev pub Longest : List Frame → List Transmission → Type 0
Longest fs xs = (x : Transmission) → Mem x xs → x.length ≡ (row fs x.frame).length

-- There is a schedule without faults, with these starts and with the largest lengths, up to tick release + response, in which instance n of
-- row k stands in the list and ends at that very tick: its end minus its release is exactly `response`.
pub record Responds (fs : List Frame) (starts : ℕ → ℕ) (k n response : ℕ) : Type 0 where
  pub list : List Transmission
  pub schedule : Schedule Never fs starts (release starts (row fs k) n + response) list
  pub longest : Longest fs list
  pub sent : Transmission
  pub listed : Mem sent list
  pub frame : sent.frame ≡ k
  pub instance : sent.instance ≡ n
  pub ended : sent.start + sent.length ≡ release starts (row fs k) n + response
