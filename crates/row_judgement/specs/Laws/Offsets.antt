-- Tables that were accepted while an offset had to be below its period have the same answers: what judging a row and its precise bound
-- answered with the checks and the bounds of document 01, and the laws that they answer the same.
use Rattle.std.specs.Prelude.{ℕ, ◌/◌, ◌<◌, ◌≡◌, cond, ◌↔◌, length, Result, Ok, Err}
use Rattle.std.proofs.Math.Path.{refl}
use Rattle.std.proofs.Common.{ap, leb-false}
use mathlib.Core.List.{List, map, Memᴰ as Mem}
use Rattle.bus_model.specs.declared.Judgement.{Judgement}
use Rattle.row_judgement.specs.declared.Refusal.{Refusal}
use Rattle.table_checks.specs.declared.Refusal.{Refusal as TableRefusal}
use Rattle.arith.specs.Laws.Tests.{by-test}
use Rattle.arith.specs.Laws.Members.{mem-get_d}
use Rattle.bus_model.specs.declared.Frame.{Frame}
use Rattle.bus_model.specs.declared.Faults.TheVariants.{Never}
use Rattle.bus_model.specs.Frame.{no_frame, row}
use Rattle.bus_model.specs.Bus.{Transmission, Schedule}
use Rattle.bus_model.specs.Valid.{Early}
use Rattle.bus_model.specs.Bounds.{every_group}
use Rattle.bus_model.specs.Judgement.{too_many_scenarios, judge}
use Rattle.bus_model.proofs.Theory.Alike.{early}
use Rattle.bus_model.proofs.Theory.Offsets.{bound_with, lacks_window_with, too_many_with, judge_with, offset_of, bound-kept, lacks-kept, count_kept, judge-kept, schedules-kept}
use Rattle.table_checks.specs.Columns.{columns}
use Rattle.table_checks.specs.Frames.{frames_of}
use Rattle.table_checks.specs.Checks.{loaded_check}
use Rattle.table_checks.proofs.Laws.Accepted.{length-frames}
use Rattle.table_checks.proofs.Laws.Offsets.{loaded_check_with, former_limit, EarlyRows, early-frames, loaded-kept}
use Rattle.row_judgement.specs.declared.Cause.TheVariants.{NoSuchRow, NoWindow, TooManyScenarios}
use Rattle.row_judgement.specs.Refusal.{of_table}
use Rattle.row_judgement.specs.Judge.{claim_of, no_row, judge_checked, judge_row, bound_frame, bound_checked, bound_row}

-- ---- as it was

unfoldable pub judge_checked_former : Result (Unit {0}) TableRefusal → List (List ℕ) → List ℕ → ℕ → Result Judgement Refusal
judge_checked_former (Err f) ls rows r = Err (of_table f)
judge_checked_former (Ok _) ls rows r =
    cond (no_row rows r) (Err (record { cause = NoSuchRow; place = 0 }))
    (Ok (judge_with offset_of Never (frames_of ls rows) (row (frames_of ls rows) r) (claim_of rows r)))

unfoldable pub judge_row_former : List (List ℕ) → List ℕ → ℕ → Result Judgement Refusal
judge_row_former ls rows r = judge_checked_former (loaded_check_with former_limit ls rows) ls rows r

unfoldable pub bound_frame_former : List Frame → ℕ → Result ℕ Refusal
bound_frame_former fs r =
    cond (lacks_window_with offset_of Never fs (row fs r)) (Err (record { cause = NoWindow; place = r }))
    (cond (too_many_with offset_of fs (row fs r)) (Err (record { cause = TooManyScenarios; place = r }))
    (Ok (bound_with offset_of Never fs (row fs r) every_group)))

unfoldable pub bound_checked_former : Result (Unit {0}) TableRefusal → List (List ℕ) → List ℕ → ℕ → Result ℕ Refusal
bound_checked_former (Err f) ls rows r = Err (of_table f)
bound_checked_former (Ok _) ls rows r = cond (no_row rows r) (Err (record { cause = NoSuchRow; place = 0 })) (bound_frame_former (frames_of ls rows) r)

unfoldable pub bound_row_former : List (List ℕ) → List ℕ → ℕ → Result ℕ Refusal
bound_row_former ls rows r = bound_checked_former (loaded_check_with former_limit ls rows) ls rows r

-- ---- where each offset is below its period, the answers are the same

module _ (ls : List (List ℕ)) (rows : List ℕ) (before : EarlyRows rows) where
  frames-early : Early (frames_of ls rows)
  frames-early = early-frames ls rows before

  listed : (r : ℕ) → r < length rows / columns → Mem (row (frames_of ls rows) r) (frames_of ls rows)
  listed r l = mem-get_d (frames_of ls rows) r no_frame (rw (length-frames ls rows) l)

  -- the judgement of a row's frame,
  pub frame-judged-kept : (r : ℕ) → r < length rows / columns → judge Never (frames_of ls rows) (row (frames_of ls rows) r) ≡ judge_with offset_of Never (frames_of ls rows) (row (frames_of ls rows) r)
  frame-judged-kept r l = judge-kept (frames_of ls rows) frames-early (listed r l) Never

  frame-bound-kept : (r : ℕ) → r < length rows / columns → bound_frame (frames_of ls rows) r ≡ bound_frame_former (frames_of ls rows) r
  unfolding bound_frame bound_frame_former too_many_scenarios too_many_with
  frame-bound-kept r l =
      let m = listed r l in
      rw (lacks-kept (frames_of ls rows) frames-early m Never, count_kept (frames_of ls rows) frames-early m, bound-kept (frames_of ls rows) frames-early m Never)

  -- what judging a row answers,
  pub judge-row-kept : (r : ℕ) → judge_row ls rows r ≡ judge_row_former ls rows r
  unfolding judge_row judge_row_former judge_checked judge_checked_former
  judge-row-kept r = rw (loaded-kept ls rows before) (go (loaded_check ls rows))
    where
      go : (c : Result (Unit {0}) TableRefusal) → judge_checked c ls rows r ≡ judge_checked_former c ls rows r
      go (Err f) = refl
      go (Ok tt) = by-test (no_row rows r) (λ e. rw e) (λ e. rw e (ap (λ j. Ok (j (claim_of rows r))) (frame-judged-kept r (leb-false _ _ e))))

  -- its precise bound,
  pub bound-row-kept : (r : ℕ) → bound_row ls rows r ≡ bound_row_former ls rows r
  unfolding bound_row bound_row_former bound_checked bound_checked_former
  bound-row-kept r = rw (loaded-kept ls rows before) (go (loaded_check ls rows))
    where
      go : (c : Result (Unit {0}) TableRefusal) → bound_checked c ls rows r ≡ bound_checked_former c ls rows r
      go (Err f) = refl
      go (Ok tt) = by-test (no_row rows r) (λ e. rw e) (λ e. rw e (frame-bound-kept r (leb-false _ _ e)))

  -- and the schedules, whether the bus rule reads an offset or what is left of it over whole periods.
  pub table-schedules-kept : (starts : ℕ → ℕ) (T : ℕ) (xs : List Transmission)
      → Schedule Never (frames_of ls rows) starts T xs ↔ Schedule Never (map early (frames_of ls rows)) starts T xs
  table-schedules-kept = schedules-kept (frames_of ls rows) frames-early Never
