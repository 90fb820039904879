-- No case, by the instance of a case.
use Rattle.std.specs.Prelude.{ℕ, ◌≡◌, refl, List, Option, Some, None, option_map}
use Rattle.std.proofs.Math.Path.{sym, ap, ◌∙◌}
use Rattle.std.proofs.lemmas.Option.{none-some}
use Rattle.bus_model.specs.declared.Frame.{Frame}
use Rattle.bus_model.specs.declared.Faults.{Faults}
use Rattle.bus_model.specs.declared.Choice.{Choice}
use Rattle.bus_model.specs.declared.Case.{Case}
use Rattle.bus_model.specs.Case.{exceeding_instance, case_in}
use Rattle.bus_model.proofs.Theory.Cases.{in-at, in-none}

-- no case
abbrev pub no_case : Option Case
no_case = None

-- the instance of a case, where there is one
abbrev pub instance_in : Option Case → Option ℕ
instance_in o = option_map (λ (c : Case). c.instance) o

pub no-instance : instance_in no_case ≡ None
no-instance = refl

-- Without an instance it is none.
pub no-case-in : (faults : Faults) (fs : List Frame) (k : Frame) (claim : ℕ) (cs : List Choice) → instance_in (case_in faults fs k claim cs) ≡ None → case_in faults fs k claim cs ≡ no_case
no-case-in faults fs k claim cs none = go (exceeding_instance faults fs k claim cs) refl
  where
    go : (r : Option ℕ) → exceeding_instance faults fs k claim cs ≡ r → case_in faults fs k claim cs ≡ no_case
    go (Some q) e = absurd (none-some q (sym none ∙ ap instance_in (in-at faults fs k claim cs q e)))
    go None e = in-none faults fs k claim cs e
