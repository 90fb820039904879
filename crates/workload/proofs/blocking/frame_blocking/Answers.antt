use Rattle.std.proofs.Common.{ℕ, ◌-◌, ap, ◌∙◌}
use Rattle.bus_model.specs.Bounds.{blocking}
use Rattle.workload.proofs.blocking.frame_blocking.Goals as goal

pub returns : goal.returns
unfolding blocking
returns c = c.saturating_sub.ensures ∙ ap (λ (n : ℕ). n - 1) c.longest.ensures.value
