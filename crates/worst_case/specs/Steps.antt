-- What one step of the code hands to the next.
use Rattle.std.specs.Prelude.{ℕ, ◌≤◌, ◌<◌, List, cond, ltb}
use Rattle.bus_model.specs.declared.Frame.{Frame}
use Rattle.bus_model.specs.Frame.{row}
use Rattle.bus_model.specs.Worst.{for_group, starts_of, instance_from}
use Rattle.worst_case.specs.declared.WorstCase.{WorstCase}

-- of two rows the one with the greater priority number
unfoldable pub later_of : List Frame → ℕ → ℕ → ℕ
later_of fs a b = cond (ltb (row fs a).priority (row fs b).priority) b a

-- of the first i rows, r has the greatest priority number
pub record LastOf (fs : List Frame) (i r : ℕ) : Type 0 where
  pub listed : r < i
  pub ranks : (j : ℕ) → j < i → (row fs j).priority ≤ (row fs r).priority

-- the alignments and the number of a case are small enough to compute with
pub record CaseWithin (als : List ℕ) (q : ℕ) (k : Frame) : Type 0 where
  pub group-low : 1 ≤ k.group
  pub group-high : k.group ≤ 16
  pub period-low : 1 ≤ k.period
  pub period-high : k.period ≤ 1000000
  pub alignment : for_group als k.group ≤ 1000000
  pub number-low : 1 ≤ q
  pub number-high : q ≤ 1000000

-- the starts and the instance by them, where the response is the bound
unfoldable pub case_shown : List ℕ → ℕ → Frame → ℕ → WorstCase
case_shown als q k bound = record { response = bound; instance = instance_from k (for_group als k.group) q; starts = starts_of als }
