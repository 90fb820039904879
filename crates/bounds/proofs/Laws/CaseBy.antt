-- The case of a scenario, by its instance and its alignments.
use Rattle.std.specs.Prelude.{ℕ, ◌≡◌, refl, Option, Some, None}
use Rattle.std.proofs.Common.{sym, ◌∙◌}
use mathlib.Core.List.{List, map}
use Rattle.bus_model.specs.declared.Frame.{Frame}
use Rattle.bus_model.specs.declared.Faults.{Faults}
use Rattle.bus_model.specs.declared.Choice.{Choice}
use Rattle.bus_model.specs.declared.Case.{Case}
use Rattle.bus_model.specs.Case.{shown, exceeding_instance, case_in, first_case}
use Rattle.bus_model.proofs.Theory.Cases.{in-at, in-none}
use Rattle.bus_model.proofs.Theory.NoCase.{no_case}
use Rattle.workload.specs.Prepared.{FineTable, InTable}
use Rattle.bounds.specs.Case.{LeadsTo}
use Rattle.bounds.specs.Laws.Case.{leads-case as leads-first}

-- the case by its instance, if there is one, and its alignments
unfoldable pub case_by : Option ℕ → List ℕ → Option Case
case_by (Some q) alignments = Some (record { instance = q; alignments = alignments })
case_by None alignments = no_case

pub case-by : (faults : Faults) (fs : List Frame) (k : Frame) (claim : ℕ) (cs : List Choice) → case_by (exceeding_instance faults fs k claim cs) (map shown cs) ≡ case_in faults fs k claim cs
unfolding case_by
case-by faults fs k claim cs = go (exceeding_instance faults fs k claim cs) refl
  where
    go : (r : Option ℕ) → exceeding_instance faults fs k claim cs ≡ r → case_by (exceeding_instance faults fs k claim cs) (map shown cs) ≡ case_in faults fs k claim cs
    go (Some q) e = rw e (sym (in-at faults fs k claim cs q e))
    go None e = rw e (sym (in-none faults fs k claim cs e))

module _ {fs : List Frame} (accepted : FineTable fs) {k : Frame} (table : InTable fs k) {faults : Faults} {claim : ℕ} {cs : List Choice} (l : LeadsTo faults fs k claim 17 cs) where
  -- Where all groups are fixed, it is the first.
  pub leads-case : {instance : Option ℕ} {shows : List ℕ} → instance ≡ exceeding_instance faults fs k claim cs → shows ≡ map shown cs → case_by instance shows ≡ first_case faults fs k claim
  leads-case is same = rw (is, same) (case-by faults fs k claim cs ∙ leads-first accepted table l)
