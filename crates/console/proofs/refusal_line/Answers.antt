-- The line fills the area that is lent for it.
use Rattle.std.proofs.Common.{refl}
use Rattle.console.proofs.Line.{line-fills}
use Rattle.console.proofs.refusal_line.Goals as goal

pub returns : goal.returns
returns c = line-fills _ c.from.ensures refl c.write_refusal.ensures.value c.write_refusal.ensures.out_after
