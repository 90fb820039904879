-- The sum of phase and what is left of the period after a is below two periods, so that one is taken away at the most.
use Rattle.std.proofs.Common.{◌≡◌, ℕ, ◌+◌, ◌-◌, ◌%◌, ◌<◌, ◌≤◌, sym, ◌∙◌, mod-eq_of_lt, arith}
use native.Mathlib.Nat.{mod-eq-sub-mod}
use Rattle.bus_model.specs.Bounds.{distance}
use Rattle.workload.proofs.work.distance_from.Goals as goal

-- a number below two periods, less one
once : (n p : ℕ) → p ≤ n → n < p + p → (n - p ≡ n % p) × (n - p < p)
once n p over under = let less : n - p < p = omega arith in (sym (mod-eq-sub-mod over ∙ mod-eq_of_lt less), less)

pub returns-then-later-g : goal.returns-then-later-g
unfolding distance
returns-then-later-g c = record { value = sym (rw (← c.phase_of.ensures.value, ← c.remainder-rest.ensures.value) (mod-eq_of_lt c.if-later-g.true)); small = c.if-later-g.true }

pub returns-else-later-g : goal.returns-else-later-g
unfolding distance
returns-else-later-g c =
    let less = once _ _ c.if-later-g.false (omega (arith, c.phase_of.ensures.small)) in
    record { value = rw (← c.phase_of.ensures.value, ← c.remainder-rest.ensures.value) less.0; small = less.1 }
