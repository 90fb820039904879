-- The load leaves room for so many.
use Rattle.std.proofs.Common.{sym, le_of_eq}
use Rattle.std.proofs.lemmas.Option.{IfSome_then}
use Rattle.response_time.specs.Laws.Within.{shows}
use Rattle.response_time.proofs.within.shown_at.Goals as goal

pub returns-clause-shows : goal.returns-clause-shows
returns-clause-shows c = IfSome_then c.shown_by_load.result c.shown_by_load.ensures.shows (λ s h. rw h.0 (shows _ _ _ _ _ _ (le_of_eq (sym c.load-needed.ensures.value)) h.1 c.if-x-latest.false))
