-- The search from 1 on finds the window.
use mathlib.Core.Path.{◌∙◌}
use borrow.Author.Rules.{rules}
use Rattle.response_time.specs.Laws.Searches.{window-search}
use Rattle.response_time.proofs.search.busy_window.Goals as goal

pub fixed_point-requires : goal.fixed_point-requires
fixed_point-requires c = record { remembered = c.requires; asked = tt; end_bound = search rules }

pub returns : goal.returns
returns c = record { value = c.fixed_point.ensures.value ∙ window-search _ _ _ _; remembered = c.fixed_point.ensures.remembered }
