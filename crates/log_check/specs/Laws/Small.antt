-- No start that is shown has more than eleven digits.
use Rattle.std.specs.Prelude.{ℕ, ◌+◌, ◌*◌, ◌≤◌, ◌<◌, ◌≡◌, refl, false, eqb, length, get_or, Option, Some, None, Result, Ok, Err}
use mathlib.Core.List.Memᴰ.{head as here}
use mathlib.Core.List.Memᴰ.{tail as there}
use mathlib.Core.List.{List, [], ◌∷◌, Memᴰ as Mem}
use Rattle.std.proofs.Common.{arith}
use Rattle.std.proofs.lemmas.List.{get_or-replicate}
use Rattle.table_checks.specs.declared.Refusal.{Refusal}
use Rattle.arith.specs.Laws.Tests.{by-test}
use Rattle.arith.specs.Laws.Members.{get_d-table, place_of}
use Rattle.bus_model.specs.Frame.{row}
use Rattle.bus_model.specs.declared.Frame.{Frame}
use Rattle.table_checks.specs.Frames.{frames_of}
use Rattle.frame_table.specs.Text.{fields_of}
use Rattle.lengths_file.specs.Lengths.{lengths_of}
use Rattle.lengths_file.specs.Input.{input_check}
use Rattle.bus_log.specs.declared.Line.{Line}
use Rattle.bus_log.specs.Log.{end_from, last_end, row_of, start_from, shown_start, shown_starts}
use Rattle.bus_log.specs.Follow.{follow_log}
use Rattle.log_reader.specs.Laws.{length_most}
use Rattle.log_check.specs.Check.{no_starts, is_missized, first_broken, lines_of, followed_answer, line_answer, text_answer, checked_answer, files_answer}
use Rattle.log_check.specs.Verdict.{Holds}
use Rattle.log_check.specs.Returns.{log_returns, files_returns}
use Rattle.log_check.specs.Laws.Meaning.{all_hold}
use Rattle.log_check.specs.Laws.Answer.{files-told}

-- the latest end of a line: the greatest start and the greatest length that their columns hold
abbrev pub latest : ℕ
latest = 10_000_009_998

pub record Early (l : Line) : Type 0 where
  pub release : l.release ≤ latest
  pub end : l.start + l.length ≤ latest

module _ (log : List Line) (text : List ℕ) (holds : Holds text log) where
  pub early : (l : Line) → Mem l log → Early l
  early l m =
      let (i, h, e) = place_of l m in
      let s = holds.stands i l h in
      rw (← e) (record { release = omega (arith, s.queueing-most); end = omega (arith, s.start-most, length_most text (40 * i) _ s) })

pub end-early : (e : ℕ) (log : List Line) → e ≤ latest → ((l : Line) → Mem l log → Early l) → end_from e log ≤ latest
unfolding end_from
end-early e [] h each = h
end-early e (l ∷ ls) h each = end-early (l.start + l.length) ls (each l (here refl)).end (λ k m. each k (there m))

module _ (fs : List Frame) (t : List ℕ) (j : ℕ) where
  start-early : (e : ℕ) (log : List Line) → e ≤ latest → ((l : Line) → Mem l log → Early l) → start_from fs t e j log ≤ latest
  unfolding start_from
  start-early e [] h each = h
  start-early e (l ∷ ls) h each =
      by-test (eqb (row fs (row_of t l)).group j)
      (λ y. rw y (omega (arith, (each l (here refl)).release)))
      (λ n. rw n (start-early e ls h (λ k m. each k (there m))))

  shown-early : (log : List Line) → ((l : Line) → Mem l log → Early l) → shown_start fs t log j ≤ latest
  unfolding shown_start
  shown-early log each = start-early (last_end log) log (end-early 0 log (omega arith) each) each

-- ---- the starts of an answer

zeros : (i : ℕ) → i < 16 → get_or no_starts i 0 ≤ latest
zeros i h = omega (arith, get_or-replicate {A = ℕ} 16 i 0 0 h)

module _ (ls : List (List ℕ)) (rows text : List ℕ) (i : ℕ) (h : i < 16) where
  followed-early : Holds text (lines_of text) → get_or (log_returns (followed_answer (frames_of ls rows) rows (lines_of text))).starts i 0 ≤ latest
  unfolding log_returns followed_answer shown_starts
  followed-early holds =
      by-test (eqb (follow_log (frames_of ls rows) rows (lines_of text)).place 0)
      (λ t. rw (t, get_d-table (shown_start (frames_of ls rows) rows (lines_of text)) 1 16 i 0 h)
      (shown-early (frames_of ls rows) rows (1 + i) (lines_of text) (early (lines_of text) text holds)))
      (λ f. rw f (zeros i h))

  line-early : is_missized (length text) ≡ false → (found : Option ℕ) → first_broken text ≡ found → get_or (log_returns (line_answer ls rows text found)).starts i 0 ≤ latest
  unfolding log_returns line_answer
  line-early f (Some k) e = zeros i h
  line-early f None e = followed-early (all_hold text f e)

  answer-early : (check : Result (Unit {0}) Refusal) → get_or (log_returns (checked_answer check ls rows text)).starts i 0 ≤ latest
  unfolding log_returns checked_answer text_answer
  answer-early (Err r) = zeros i h
  answer-early (Ok tt) = by-test (is_missized (length text)) (λ t. rw t (zeros i h)) (λ f. rw f (line-early f (first_broken text) refl))

-- What is returned of them.
pub starts-early : (lengths table text : List ℕ) (i : ℕ) → i < 16 → get_or (files_returns lengths table text).starts i 0 ≤ latest
unfolding files_answer log_returns
starts-early lengths table text i h =
    rw (← (files-told lengths table text refl).1.1) (answer-early (lengths_of lengths) (fields_of table) text i h (input_check lengths table))
