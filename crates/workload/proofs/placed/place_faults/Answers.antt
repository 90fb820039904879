-- Where faults begin, the first after the lead is put behind the frames.
use Rattle.std.proofs.Common.{ℕ, ◌-◌, ◌*◌, ◌≤◌, List, [], ◌∷◌, ◌++◌, take, sym, ap, ◌∙◌, append-nil, arith}
use Rattle.arith.specs.Releases.{releases_before}
use Rattle.workload.specs.Faults.{FineFaults}
use Rattle.workload.specs.Placed.{Placed, placed_in, fault_frames}
use Rattle.workload.proofs.Laws.Placed.{placed-more}
use Rattle.workload.proofs.placed.place_faults.Goals as goal
use Rattle.workload.proofs.placed.place_faults.Goals.{In-Apart}

pub returns-in_default : goal.returns-in_default
unfolding fault_frames
returns-in_default c = record { area_after = rw c.in_default.is (sym (append-nil _)); few = omega (arith, c.requires.found_bound.0) }

-- the gap is within its limits
premise : (c : In-Apart) → (1 ≤ c.in-Apart.gap) × (c.in-Apart.gap ≤ 1000000)
unfolding FineFaults
premise c = rw c.in-Apart.is at c.requires.fine_target.premise

pub first_fault-requires : goal.first_fault-requires
first_fault-requires c = let p = premise (goal.at.first_fault-requires c).In-Apart in (p.0, p.1, c.lead_of-lead.ensures.small)

pub returns : goal.returns
unfolding fault_frames
returns c =
    let gap = c.in-Apart.gap in
    let is = ap {B = Placed} (λ (n : ℕ). record { length = c.args.target.cost; period = gap; first = n }) (c.first_fault.ensures ∙ ap (λ (n : ℕ). releases_before 0 gap n * gap - n) c.lead_of-lead.ensures.value) in
    record {
      area_after = rw c.in-Apart.is (placed-more c.args.area.now c.args.found (omega (arith, c.requires.found_bound)) _ ∙ ap {B = List Placed} (λ (y : Placed). placed_in (take c.args.found c.args.area.now) ++ (y ∷ [])) is);
      few = omega (arith, c.requires.found_bound.0);
    }
