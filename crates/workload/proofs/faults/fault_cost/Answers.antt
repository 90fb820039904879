-- By the premise: a product within the bounds of its factors.
use Rattle.std.proofs.Common.{ℕ, ◌*◌, ◌≤◌, ap, ◌∙◌, mul-le-mul, arith, rules}
use Rattle.workload.specs.Faults.{FineFaults, faults_in}
use Rattle.workload.proofs.faults.fault_cost.Goals as goal

pub releases_before-requires : goal.releases_before-requires
unfolding FineFaults
releases_before-requires c = let fine = rw c.in-Apart.is at c.requires.fine_target.premise in (fine.0, fine.1, c.requires.n_bound)

pub returns-in-Never : goal.returns-in-Never
unfolding faults_in
returns-in-Never c = rw c.in-Never.is (search rules)

pub returns-in-Apart : goal.returns-in-Apart
unfolding faults_in
returns-in-Apart c =
    let times = c.releases_before in
    let small : times.result * c.args.target.cost ≤ 1000400 * 431 = mul-le-mul {n₂ = 1000400} {m₂ = 431} (omega (arith, times.ensures.small, c.requires.n_bound)) c.requires.fine_target.cost in
    record { value = rw c.in-Apart.is (c.product.ensures.value ∙ ap (λ (n : ℕ). n * c.args.target.cost) times.ensures.value); small = omega (arith, small, c.product.ensures.value) }
