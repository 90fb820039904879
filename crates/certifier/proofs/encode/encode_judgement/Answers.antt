-- The verdict is small, and bound and margin are, so that their sum has 63 bits.
use Rattle.std.proofs.Common.{arith}
use Rattle.std.proofs.lemmas.Int.{ints}
use Rattle.certifier.specs.Encode.{encode_judged}
use Rattle.certifier.proofs.Laws.Encoding.{verdict-max}
use Rattle.certifier.proofs.encode.encode_judgement.Goals as goal

pub returns : goal.returns
unfolding encode_judged
returns c = omega (arith, ints, c.requires.1.1, verdict-max c.args.judgement.outcome)
