-- An accepted table: no two rows have one identifier and kind, so all that is proved of logs holds of its logs.
use Rattle.std.specs.Prelude.{ℕ, ◌/◌, ◌≤◌, ◌<◌, ◌≡◌, List, ◌↔◌}
use Rattle.std.proofs.Common.{ap₂, arith}
use Rattle.std.proofs.Math.Decide.{dec_lt}
use Rattle.std.proofs.Math.ListN.{length}
use Rattle.bus_model.specs.Frame.{row}
use Rattle.bus_model.specs.Valid.{Valid}
use Rattle.table_checks.specs.Columns.{columns}
use Rattle.table_checks.specs.Frames.{priority_of, frame_at, frames_of}
use Rattle.table_checks.specs.Checks.{Accepted, Loadable}
use Rattle.table_checks.proofs.Laws.Accepted.{length-frames, frame_row, no_row, accepted-size, accepted-limits, accepted-valid}
use Rattle.bus_log.specs.declared.Line.{Line}
use Rattle.bus_log.specs.Log.{AcceptedLog, ShortestFailing, ShownStarts, shown_start, shown_starts}
use Rattle.bus_log.specs.Follow.{follow_log, start_shown}
use Rattle.bus_log.proofs.Theory.Entries.{Names}
use Rattle.bus_log.proofs.Theory.Verdict as verdict
use Rattle.bus_log.proofs.Theory.Shown.{starts-shown}

pub few-lines : (t : List ℕ) → Accepted t → length t / columns ≤ 64
few-lines t accepted = omega (arith, (accepted-size t accepted).most)

module _ (ls : List (List ℕ)) (t : List ℕ) (accepted : Accepted t) where
  pub few-rows : length (frames_of ls t) ≤ 64
  few-rows = rw (length-frames ls t) (few-lines t accepted)

  pub row-group : (i : ℕ) → i < length t / columns → (row (frames_of ls t) i).group < 17
  unfolding frame_at
  row-group i l = rw (frame_row ls t i l) (omega (arith, (accepted-limits t accepted i l).group-max))

  -- beyond the last row too
  pub any-group : (i : ℕ) → (row (frames_of ls t) i).group < 17
  any-group i =
      elim (dec_lt i (length t / columns)) [
        | yes l ↦ row-group i l
        | no l ↦ rw (no_row ls t i (omega arith)) (omega arith)
      ]

  module _ (loadable : Loadable ls) where
    valid : Valid (frames_of ls t)
    valid = accepted-valid t accepted ls loadable

    pub row-names : Names (frames_of ls t) t
    unfolding frame_at
    row-names = record {
      count = length-frames ls t;
      distinct = λ i j a b p q.
          let a' : i < length t / columns = rw (length-frames ls t) at a in
          let b' : j < length t / columns = rw (length-frames ls t) at b in
          valid.distinct i j a b (rw (frame_row ls t i a', frame_row ls t j b') (ap₂ priority_of q p));
    }

    module _ (log : List Line) where
      -- A log is accepted just where it is followed to its end.
      pub accepted-followed : AcceptedLog (frames_of ls t) t log ↔ ((follow_log (frames_of ls t) t log).place ≡ 0)
      accepted-followed = verdict.accepted-iff valid few-rows t row-names log

      -- Else it is followed up to its shortest beginning that fails.
      pub followed-shortest : 0 < (follow_log (frames_of ls t) t log).place → ShortestFailing (frames_of ls t) t log (follow_log (frames_of ls t) t log).place
      followed-shortest = verdict.place-shortest valid few-rows t row-names log

      -- What is computed of the starts is what is to be shown of them.
      pub followed-shown : (follow_log (frames_of ls t) t log).place ≡ 0 → ShownStarts (frames_of ls t) t log (shown_starts (frames_of ls t) t log)
      followed-shown z = starts-shown valid few-rows t row-names log (accepted-followed.1 z)

      pub shown-known : (follow_log (frames_of ls t) t log).place ≡ 0 → (j : ℕ) → start_shown (follow_log (frames_of ls t) t log).progress j ≡ shown_start (frames_of ls t) t log j
      shown-known = verdict.shown-is valid few-rows t log
