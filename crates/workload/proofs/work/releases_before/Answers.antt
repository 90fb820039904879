-- Up to d nothing is counted, and one release in the period after it; elsewhere the code computes the count as it is defined.
use Rattle.std.proofs.Common.{◌≤◌, ◌≡◌, leb, arith, leb-false, leb-true}
use Rattle.arith.specs.Releases.{releases_before}
use Rattle.arith.specs.Laws.Releases.{count-le, count_small, counted}
use Rattle.arith.specs.Laws.Tests.{by-test}
use Rattle.workload.proofs.work.releases_before.Goals as goal

pub returns-then-n-d : goal.returns-then-n-d
returns-then-n-d c =
    let is = c.counts_below.ensures in
    let d = c.args.d in
    let n = c.args.n in
    let most = count-le d c.requires.0 n 1 (omega (arith, c.if-n-d.true)) in
    let both : (c.counts_below.result ≡ releases_before d c.args.p n) × (c.counts_below.result ≤ n) =
    by-test
    (leb n d)
    (λ h. let le = leb-true n d h in let none = count-le d c.requires.0 n 0 (omega arith) in (omega arith, omega arith))
    (λ h. let gt = leb-false n d h in let some = (counted d c.requires.0 n 0).1 (omega arith) in (omega arith, omega arith)) in record { value = both.0; small = both.1 }

pub returns : goal.returns
unfolding releases_before
returns c =
    let is : c.quotient.result ≡ releases_before c.args.d c.args.p c.args.n = c.quotient.ensures in
    record { value = is; small = rw is (count_small c.args.d c.requires.0 c.args.n) }
