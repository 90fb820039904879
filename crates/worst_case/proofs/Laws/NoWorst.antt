-- No worst case, where none is due and where the table is refused.
use Rattle.std.specs.Prelude.{ℕ, ◌≡◌, List, Option, None, Err}
use Rattle.std.proofs.Math.Path.{sym, ◌∙◌}
use Rattle.bus_model.specs.declared.Frame.{Frame}
use Rattle.bus_model.specs.declared.Faults.{Faults}
use Rattle.bus_model.specs.declared.Faults.TheVariants.{Never}
use Rattle.bus_model.specs.Frame.{row}
use Rattle.bus_model.specs.Worst.{last_row}
use Rattle.table_checks.specs.Frames.{frames_of}
use Rattle.table_checks.specs.Checks.{loaded_check}
use Rattle.bounds.specs.declared.Bound.{Bound}
use Rattle.bounds.specs.Find.{bound_for}
use Rattle.row_judgement.specs.declared.Refusal.{Refusal}
use Rattle.row_judgement.specs.Judge.{judge_row, bound_frame}
use Rattle.worst_case.specs.declared.WorstCase.{WorstCase}
use Rattle.worst_case.specs.declared.LastFrame.{LastFrame}
use Rattle.worst_case.specs.Answer.{worst_bounded, worst_checked, worst_of}
use Rattle.worst_case.specs.Laws.Answer.{worst_decided, due-decided}
use Rattle.worst_case.specs.Laws.Answer.{worst-refused as refused-none}

-- no worst case
abbrev pub no_worst : Option WorstCase
no_worst = None

-- Without a precise bound none is shown.
pub none-due : (ls : List (List ℕ)) (rows : List ℕ) (i : ℕ) {faults : Faults} {fs : List Frame} {k : Frame} → fs ≡ frames_of ls rows → (k ≡ row (frames_of ls rows) i) × (faults ≡ Never)
    → {bound : Bound} → bound ≡ bound_for faults fs k None → {w : Option WorstCase} → worst_decided (frames_of ls rows) (row (frames_of ls rows) i) bound ≡ no_worst → w ≡ no_worst
    → w ≡ worst_bounded (frames_of ls rows) (row (frames_of ls rows) i) (bound_frame (frames_of ls rows) i)
none-due ls rows i table is found none is_none = is_none ∙ sym none ∙ due-decided ls rows i table is found

-- A refused table shows none.
pub worst-refused : (ls : List (List ℕ)) (rows : List ℕ) {f : Refusal} {w : LastFrame} → judge_row ls rows (last_row (frames_of ls rows)) ≡ Err f
    → worst_checked (loaded_check ls rows) (frames_of ls rows) ≡ no_worst → w ≡ record { judged = Err f; worst = no_worst } → w ≡ worst_of ls rows
worst-refused ls rows judged none is = refused-none ls rows judged none is
