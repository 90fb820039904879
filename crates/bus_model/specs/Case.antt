-- The case that breaks the claim of a frame k of the table fs (document 02, request 4): the first scenario in which a response exceeds
-- the claim, and the first instance of k whose response does, under a premise about faults.
-- "Scenarios run with nodes rising and alignments rising, the last node changing fastest", groups in place of nodes, as `scenarios` lists them.
use Rattle.std.specs.Prelude.{ℕ, ◌-◌, List, [], ◌∷◌, map, ltb, replicate, Option, Some, None, option_map}
use Rattle.arith.specs.Least.{least}
use Rattle.arith.specs.Releases.{releases_before}
use Rattle.bus_model.specs.Bounds.{groups, scenarios, every_group, busy_window, own_distance, instance_response}
use Rattle.bus_model.specs.declared.Frame.{Frame}
use Rattle.bus_model.specs.declared.Faults.{Faults}
use Rattle.bus_model.specs.declared.Choice.{Choice}
use Rattle.bus_model.specs.declared.Choice.TheVariants.{Fixed, Any}
use Rattle.bus_model.specs.declared.Outcome.{Outcome}
use Rattle.bus_model.specs.declared.Outcome.TheVariants.{CertifiedApproximate, CertifiedPrecise, ClaimTooSmall, CertifiedLevel, Undecided, NoWindow}
use Rattle.bus_model.specs.declared.Case.{Case}

-- of two cases the first that there is
unfoldable pub or_else : Option Case → Option Case → Option Case
or_else (Some c) d = Some c
or_else None d = d

-- a case's numbers, 0 where there is none
unfoldable pub alignments_of : Option Case → List ℕ
alignments_of (Some c) = c.alignments
alignments_of None = replicate groups 0

unfoldable pub instance_of : Option Case → ℕ
instance_of (Some c) = c.instance
instance_of None = 0

-- the alignment that a choice shows; an empty one is 0
unfoldable pub shown : Choice → ℕ
shown (Fixed a) = a
shown Any = 0

-- "the number q of the instance whose response exceeds the claim", the least in the scenario's window, from 1
unfoldable pub exceeding_instance : Faults → List Frame → Frame → ℕ → List Choice → Option ℕ
exceeding_instance faults fs k claim cs = elim (busy_window faults fs k cs) [
  | Some l ↦ least (λ q. ltb claim (instance_response faults fs k cs (q - 1))) (releases_before (own_distance k cs) k.period l) 1
  | None ↦ None
]

-- the case that a scenario is, where it has such an instance
unfoldable pub case_in : Faults → List Frame → Frame → ℕ → List Choice → Option Case
case_in faults fs k claim cs = option_map (λ q. record { instance = q; alignments = map shown cs }) (exceeding_instance faults fs k claim cs)

-- "the first that exceeds is shown, with its least q"
unfoldable pub first_among : Faults → List Frame → Frame → ℕ → List (List Choice) → Option Case
first_among faults fs k claim [] = None
first_among faults fs k claim (cs ∷ more) = or_else (case_in faults fs k claim cs) (first_among faults fs k claim more)

unfoldable pub first_case : Faults → List Frame → Frame → ℕ → Option Case
first_case faults fs k claim = first_among faults fs k claim (scenarios fs k every_group)

-- the case beside a judgement: "for every other verdict" than 3 "the judgement comes without a case"
unfoldable pub case_of : Faults → List Frame → Frame → ℕ → Outcome → Option Case
case_of faults fs k claim (CertifiedApproximate b) = None
case_of faults fs k claim (CertifiedPrecise b) = None
case_of faults fs k claim (ClaimTooSmall b) = first_case faults fs k claim
case_of faults fs k claim (CertifiedLevel b) = None
case_of faults fs k claim (Undecided b) = None
case_of faults fs k claim NoWindow = None
