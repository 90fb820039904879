-- `log_check::text::line_of` meets its contract: the line is read.
use Prim.Native.Nat.{◌*◌}
use mathlib.Core.Path.{◌≡◌, sym, ◌∙◌}
use Rattle.std.specs.Prelude.{Ok}
use Rattle.log_reader.specs.Text.{line_at}
use Rattle.log_reader.specs.Laws.{stands_read, read-line}
use Rattle.log_check.proofs.text.line_of.Goals as goal
use Rattle.log_check.proofs.text.line_of.Goals.{After-line}

read : (c : After-line) → c.line.result ≡ Ok (line_at c.args.text.now (40 * c.args.i))
read c = c.line.ensures ∙ stands_read _ _ _ c.requires.1

pub unwrap-requires : goal.unwrap-requires
unwrap-requires c = rw (read (goal.at.unwrap-requires c).After-line)

pub returns : goal.returns
returns c =
    let answer = read-line _ _ _ (sym c.line.ensures ∙ c.unwrap.ensures) in
    record { value = answer.0; small = answer.1 }
