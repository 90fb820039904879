-- By a precise bound, what the case for a tick less shows, whether there is one or not.
use Rattle.std.specs.Prelude.{ℕ, ◌-◌, ◌<◌, ◌≡◌, refl, List, Option, Some, None, Ok}
use Rattle.std.proofs.Math.ListN.{length}
use Rattle.std.proofs.Math.Path.{sym, ap, ◌∙◌}
use Rattle.std.proofs.Common.{subst}
use Rattle.bus_model.specs.declared.Frame.{Frame}
use Rattle.bus_model.specs.declared.Faults.{Faults}
use Rattle.bus_model.specs.declared.Faults.TheVariants.{Never}
use Rattle.bus_model.specs.declared.Case.{Case}
use Rattle.bus_model.specs.Frame.{row}
use Rattle.bus_model.specs.Case.{alignments_of, instance_of, first_case}
use Rattle.bus_model.specs.Worst.{worst_case, worst_starts, worst_instance}
use Rattle.table_checks.specs.Frames.{frames_of}
use Rattle.table_checks.specs.Checks.{Loadable, Accepted}
use Rattle.bounds.specs.declared.Bound.{Bound}
use Rattle.bounds.specs.declared.Bound.TheVariants.{Precise}
use Rattle.bounds.specs.Find.{bound_for}
use Rattle.row_judgement.specs.Judge.{bound_frame}
use Rattle.worst_case.specs.declared.WorstCase.{WorstCase}
use Rattle.worst_case.specs.Steps.{CaseWithin, case_shown}
use Rattle.worst_case.specs.Answer.{worst_bounded}
use Rattle.worst_case.specs.Laws.Answer.{worst_decided, due-decided, first-is, precise-exists, precise-within}

-- The worst case is shown.
shown : (fs : List Frame) (k : Frame) (b : ℕ) → Some (case_shown (alignments_of (worst_case fs k)) (instance_of (worst_case fs k)) k b) ≡ worst_bounded fs k (Ok b)
unfolding case_shown worst_bounded worst_starts worst_instance
shown fs k b = refl

module _ (ls : List (List ℕ)) (rows : List ℕ) (i : ℕ) {faults : Faults} {fs : List Frame} {k : Frame} (table : fs ≡ frames_of ls rows) (is : (k ≡ row (frames_of ls rows) i) × (faults ≡ Never)) {bound : Bound}
    (found : bound ≡ bound_for faults fs k None) {b : ℕ} (precise : bound ≡ Precise b)
  where
    pub precise-due : {o : Option Case} {q : ℕ} {w : WorstCase} → o ≡ first_case faults fs k (b - 1) → q ≡ instance_of o → w ≡ case_shown (alignments_of o) q k b
        → Some w ≡ worst_bounded (frames_of ls rows) (row (frames_of ls rows) i) (bound_frame (frames_of ls rows) i)
    unfolding worst_decided
    precise-due {o} first number shows =
        ap Some shows
        ∙ ap (λ (n : ℕ). Some (case_shown (alignments_of o) n k b)) number
        ∙ ap (λ (g : Frame). Some (case_shown (alignments_of o) (instance_of o) g b)) is.0
        ∙ ap (λ (x : Option Case). Some (case_shown (alignments_of x) (instance_of x) (row (frames_of ls rows) i) b)) (first-is ls rows i table is found precise first)
        ∙ shown (frames_of ls rows) (row (frames_of ls rows) i) b
        ∙ ap (worst_decided (frames_of ls rows) (row (frames_of ls rows) i)) (sym precise)
        ∙ due-decided ls rows i table is found

    -- Such a case is within the limits.
    pub precise-whole : Loadable ls → Accepted rows → i < length (frames_of ls rows) → {o : Option Case} {q : ℕ} → o ≡ first_case faults fs k (b - 1) → q ≡ instance_of o → CaseWithin (alignments_of o) q k
    unfolding instance_of alignments_of
    precise-whole loadable accepted inside {o} {q} first number = go o first number
      where
        go : (o : Option Case) → o ≡ first_case faults fs k (b - 1) → q ≡ instance_of o → CaseWithin (alignments_of o) q k
        go None first number = absurd (precise-exists ls rows i table is found precise loadable accepted inside first)
        go (Some c) first number = subst (λ (n : ℕ). CaseWithin c.alignments n k) (sym number) (precise-within ls rows i table is found precise loadable accepted inside first)
