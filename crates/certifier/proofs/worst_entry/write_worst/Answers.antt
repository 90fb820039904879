-- The numbers of a case, and the response behind them.
use mathlib.Core.Path.{◌≡◌, ◌∙◌}
use mathlib.Core.List.{[], ◌∷◌, ◌++◌}
use native.Mathlib.Omega.{arith}
use borrow.Author.Rules.{rules}
use lib.ListN.{length, length-append}
use Rattle.certifier.proofs.Laws.WorstEntry.{response-behind}
use Rattle.certifier.proofs.worst_entry.write_worst.Goals as goal
use Rattle.certifier.proofs.worst_entry.write_worst.Goals.{Start}

-- the starts are as many as the groups
long : (s : Start) → length s.args.starts ≡ 16
long s = search rules

pub returns : goal.returns
returns c =
    response-behind (c.args.starts ++ (c.args.instance ∷ [])) c.args.shown.now c.args.response (length-append c.args.starts (c.args.instance ∷ []) ∙ omega (arith, long (goal.at.returns c).Start)) c.requires c.write_case.ensures
