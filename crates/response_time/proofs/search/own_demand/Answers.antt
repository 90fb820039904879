-- By the choice of k's own group, which is fixed.
use Prim.Native.Nat.{ℕ}
use mathlib.Core.Path.{◌≡◌, sym, ap, ◌∙◌}
use native.Mathlib.Omega.{arith}
use Rattle.bus_model.specs.Bounds.{demand}
use Rattle.response_time.proofs.search.own_demand.Goals as goal

pub returns-in-Fixed : goal.returns-in-Fixed
returns-in-Fixed c =
    λ a is. let same : c.in-Fixed.a ≡ a = cc (sym c.in-Fixed.is ∙ c.own_choice.ensures ∙ is) in c.frame_demand.ensures.value ∙ ap (λ (x : ℕ). demand c.args.k x c.args.n) same

pub returns-in-Any : goal.returns-in-Any
returns-in-Any c = λ a is. absurd (let z : ◌≡◌ {A = ℕ} 0 1 = cc (sym c.in-Any.is ∙ c.own_choice.ensures ∙ is) in omega arith)
