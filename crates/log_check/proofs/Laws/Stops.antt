-- Where a loop stops that follows a log: the place, and what the lines before it say.
use Rattle.std.specs.Prelude.{ℕ, ◌+◌, ◌-◌, ◌<◌, ◌≡◌, List, ◌∷◌, map, Err}
use Rattle.std.proofs.Common.{◌∙◌}
use Rattle.arith.specs.Lists.{range}
use Rattle.arith.specs.Laws.Members.{range-next}
use Rattle.table_checks.specs.Frames.{frames_of}
use Rattle.bus_log.specs.declared.Progress.{Progress}
use Rattle.bus_log.specs.Follow.{follow_line, follow, follow_log}
use Rattle.bus_log.proofs.Theory.Lines.{line-stops}
use Rattle.log_check.specs.Check.{lines_of}
use Rattle.log_check.specs.Laws.Loop.{entry_at}

module _ (ls : List (List ℕ)) (rows text : List ℕ) (n i : ℕ) (p : Progress)
    (is : follow (frames_of ls rows) p i (map (entry_at ls rows text) (range i (n - i))) ≡ follow_log (frames_of ls rows) rows (lines_of text)) (l : i < n)
  where
    here : follow (frames_of ls rows) p i (entry_at ls rows text i ∷ map (entry_at ls rows text) (range (i + 1) (n - (i + 1)))) ≡ follow_log (frames_of ls rows) rows (lines_of text)
    here = rw (range-next n i l) at is

    pub log-stops : (k : ℕ) → Err k ≡ follow_line (frames_of ls rows) p i (entry_at ls rows text i) → record { place = k; progress = p } ≡ follow_log (frames_of ls rows) rows (lines_of text)
    log-stops k line = (line-stops (frames_of ls rows) p i (entry_at ls rows text i) (map (entry_at ls rows text) (range (i + 1) (n - (i + 1)))) k line).1 ∙ here
