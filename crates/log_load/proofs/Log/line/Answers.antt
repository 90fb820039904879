-- `log_load::Log::line` meets its contract: the line stands in the text.
use mathlib.Core.Path.{sym, ◌∙◌}
use native.Mathlib.Omega.{arith}
use Rattle.log_load.specs.Theory.Lines.{few-lines, line-stands, line-is}
use Rattle.log_load.proofs.Log.line.Goals as goal

pub line_of-requires : goal.line_of-requires
line_of-requires c =
    let readable = c.args.self.now.readable in
    let h = c.requires in
    (omega (arith, few-lines _ readable), rw (← line-is _ readable _ h) (line-stands _ readable _ h))

pub returns : goal.returns
returns c = record { value = c.line_of.ensures.value ∙ sym (line-is _ c.args.self.now.readable _ c.requires); small = c.line_of.ensures.small }
