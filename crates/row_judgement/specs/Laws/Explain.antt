-- What explaining a row tells: the answer of judging it, and just for verdict 3 a case.
use Rattle.std.specs.Prelude.{ℕ, ◌<◌, ◌/◌, ◌≡◌, refl, Bool, true, false, ◌≢◌, ◌↔◌, T, length, replicate, Option, Some, None, Result, Ok, Err}
use Rattle.std.proofs.Math.Path.{sym, ap}
use Rattle.std.proofs.Common.{subst, ◌∙◌, arith}
use mathlib.Core.List.{List}
use Rattle.bus_model.specs.declared.Frame.{Frame}
use Rattle.bus_model.specs.declared.Faults.{Faults}
use Rattle.bus_model.specs.declared.Faults.TheVariants.{Never, Apart}
use Rattle.bus_model.specs.declared.Judgement.{Judgement}
use Rattle.bus_model.specs.declared.Case.{Case}
use Rattle.bus_model.specs.Frame.{row}
use Rattle.bus_model.specs.Bus.{MeetsClaim}
use Rattle.bus_model.specs.Judgement.{lacks_window, outcome_of, verdict, judge}
use Rattle.bus_model.specs.Case.{first_case, case_of}
use Rattle.bus_model.proofs.Theory.Cases.{Exists, small-just-with-case, case-of-small, case-of-other}
use Rattle.table_checks.specs.Columns.{columns}
use Rattle.table_checks.specs.Frames.{frames_of}
use Rattle.table_checks.specs.Checks.{Loadable, Accepted}
use Rattle.table_checks.specs.Returns.{loaded_returns}
use Rattle.table_checks.proofs.Laws.Accepted.{accepted-valid}
use Rattle.greatest_work.specs.declared.Setting.{Setting}
use Rattle.greatest_work.specs.Setting.{Remembers}
use Rattle.greatest_work.proofs.Laws.Memory.{remembers-none}
use Rattle.bounds.specs.declared.Bound.{Bound}
use Rattle.bounds.specs.Find.{bound_for}
use Rattle.row_judgement.specs.declared.Refusal.{Refusal}
use Rattle.row_judgement.specs.declared.Explained.{Explained}
use Rattle.row_judgement.specs.Judge.{claim_of, judge_row, judge_faults, certified}
use Rattle.row_judgement.specs.Explain.{case_beside, beside, explain_row, explain_faults, explained_returns, explain_returns, explain_faults_returns}
use Rattle.row_judgement.specs.Decide.{judged_by}
use Rattle.row_judgement.specs.Laws.Judged.{row_inside, judged-meets, faults-meets, decided-judge}
use Rattle.row_judgement.specs.Laws.Returns.{judged-told, faults-told}

-- ---- the theorem of request 4, for the rows of accepted tables

module _ (faults : Faults) (ls : List (List ℕ)) (rows : List ℕ) (loadable : Loadable ls) (accepted : Accepted rows) {r : ℕ} (inside : r < length rows / columns) where
  abbrev fs : List Frame
  fs = frames_of ls rows

  abbrev f : Frame
  f = row fs r

  -- the verdict on the row's claim
  abbrev v : ℕ
  v = verdict (judge faults fs f (claim_of rows r)).outcome

  -- Where neither 11 nor 12 is the verdict, it is 3 if and only if there is a case.
  pub row-small-with-case : v ≢ 11 → v ≢ 12 → (v ≡ 3) ↔ Exists (first_case faults fs f (claim_of rows r))
  row-small-with-case = small-just-with-case (accepted-valid rows accepted ls loadable) (row_inside ls rows inside) faults (claim_of rows r)

  -- That is the one beside the judgement;
  pub row-case : v ≡ 3 → case_of faults fs f (claim_of rows r) (judge faults fs f (claim_of rows r)).outcome ≡ first_case faults fs f (claim_of rows r)
  row-case = case-of-small faults fs f (claim_of rows r) (judge faults fs f (claim_of rows r)).outcome

  -- for every other verdict there is none.
  pub row-no-case : v ≢ 3 → case_of faults fs f (claim_of rows r) (judge faults fs f (claim_of rows r)).outcome ≡ None
  row-no-case = case-of-other faults fs f (claim_of rows r) (judge faults fs f (claim_of rows r)).outcome

-- ---- for the code

abbrev explained_by : Result Judgement Refusal → Option Case → Explained
explained_by answer c = record { judged = answer; breaking = c }

-- Where nothing is remembered, all that is remembered is so.
pub remembers-new : (s : Setting) → Remembers s (replicate 528 0)
remembers-new s = remembers-none s.posed.prepared.filled.table s.target.frame refl refl

-- Where the verdict is 3, no window lacks.
pub small-windows : (faults : Faults) (fs : List Frame) (k : Frame) (claim : ℕ) → verdict (judge faults fs k claim).outcome ≡ 3 → lacks_window faults fs k ≡ false
unfolding judge outcome_of
small-windows faults fs k claim e = go (lacks_window faults fs k) refl e
  where
    go : (b : Bool) → lacks_window faults fs k ≡ b → verdict (outcome_of faults fs k claim) ≡ 3 → b ≡ false
    go true lacks is = absurd (omega (arith, rw lacks at is))
    go false lacks is = refl

module _ (faults : Faults) (ls : List (List ℕ)) (rows : List ℕ) (r : ℕ) {fs : List Frame} {k : Frame} (table : fs ≡ frames_of ls rows) (is : k ≡ row (frames_of ls rows) r) where
  -- the judgement by the bound that decides
  pub judged-row : {bound : Bound} {j : Judgement} → bound ≡ bound_for faults fs k (Some (claim_of rows r)) → j ≡ judged_by (claim_of rows r) bound
      → j ≡ judge faults (frames_of ls rows) (row (frames_of ls rows) r) (claim_of rows r)
  judged-row decides by =
      by ∙ ap (judged_by (claim_of rows r)) decides ∙ decided-judge faults fs k (claim_of rows r)
      ∙ ap (λ (gs : List Frame). judge faults gs k (claim_of rows r)) table ∙ ap (λ (g : Frame). judge faults (frames_of ls rows) g (claim_of rows r)) is

  module _ {j : Judgement} (judged : j ≡ judge faults (frames_of ls rows) (row (frames_of ls rows) r) (claim_of rows r)) where
    -- Where its verdict is 3, the first case stands beside it,
    pub small-has : verdict j.outcome ≡ 3 → lacks_window faults fs k ≡ false
    small-has small = rw (table, is) (small-windows faults (frames_of ls rows) (row (frames_of ls rows) r) (claim_of rows r) (rw judged at small))

    pub small-beside : verdict j.outcome ≡ 3 → {c : Option Case} → c ≡ first_case faults fs k (claim_of rows r)
        → explained_by (Ok j) c ≡ beside faults ls rows r (Ok (judge faults (frames_of ls rows) (row (frames_of ls rows) r) (claim_of rows r)))
    unfolding case_beside
    small-beside small {c} first =
        let found : c ≡ case_of faults (frames_of ls rows) (row (frames_of ls rows) r) (claim_of rows r) j.outcome
        = first ∙ ap (λ (gs : List Frame). first_case faults gs k (claim_of rows r)) table ∙ ap (λ (g : Frame). first_case faults (frames_of ls rows) g (claim_of rows r)) is
        ∙ sym (case-of-small _ _ _ _ j.outcome small) in
        ap (λ (x : Option Case). explained_by (Ok j) x) found ∙ ap (λ (x : Judgement). beside faults ls rows r (Ok x)) judged

    -- and else none.
    pub other-beside : verdict j.outcome ≢ 3 → {c : Option Case} → c ≡ None
        → explained_by (Ok j) c ≡ beside faults ls rows r (Ok (judge faults (frames_of ls rows) (row (frames_of ls rows) r) (claim_of rows r)))
    unfolding case_beside
    other-beside other {c} none =
        ap (λ (x : Option Case). explained_by (Ok j) x) (none ∙ sym (case-of-other faults (frames_of ls rows) (row (frames_of ls rows) r) (claim_of rows r) j.outcome other))
        ∙ ap (λ (x : Judgement). beside faults ls rows r (Ok x)) judged

-- By what judging the row answers.
pub refused-beside : (faults : Faults) (ls : List (List ℕ)) (rows : List ℕ) (r : ℕ) {answer : Result Judgement Refusal} (f : Refusal) → answer ≡ Err f → explained_by (Err f) None ≡ beside faults ls rows r answer
unfolding case_beside
refused-beside faults ls rows r f e = sym (ap (beside faults ls rows r) e)

pub judged-beside : (faults : Faults) (ls : List (List ℕ)) (rows : List ℕ) (r : ℕ) {answer : Result Judgement Refusal} {j : Judgement} {e : Explained} → e ≡ beside faults ls rows r (Ok j) → answer ≡ Ok j
    → e ≡ beside faults ls rows r answer
judged-beside faults ls rows r is answered = is ∙ sym (ap (beside faults ls rows r) answered)

-- What the code answers tells all,
pub explained-told : (ls : List (List ℕ)) (rows : List ℕ) (r : ℕ) {e : Explained} → e ≡ beside Never ls rows r (judge_row ls rows r)
    → (e ≡ explain_row ls rows r) × ((T (certified e.judged) → MeetsClaim Never (frames_of ls rows) r (claim_of rows r)) × (explained_returns e ≡ explain_returns (loaded_returns ls rows) ls rows r))
unfolding explain_row explained_returns explain_returns
explained-told ls rows r e =
    let told = judged-told ls rows r refl in (
      e,
      (λ t. judged-meets ls rows r (subst (λ (x : Explained). T (certified x.judged)) e t), ap explained_returns e ∙ rw told.1.1.1),
    )

-- under a premise about faults too.
pub explained-faults-told : (ls : List (List ℕ)) (rows : List ℕ) (r g : ℕ) {e : Explained} → e ≡ beside (Apart g) ls rows r (judge_faults ls rows r g)
    → (e ≡ explain_faults ls rows r g) × ((T (certified e.judged) → MeetsClaim (Apart g) (frames_of ls rows) r (claim_of rows r)) × (explained_returns e ≡ explain_faults_returns (loaded_returns ls rows) ls rows r g))
unfolding explain_faults explained_returns explain_faults_returns
explained-faults-told ls rows r g e =
    let told = faults-told ls rows r g refl in (
      e,
      (λ t. faults-meets ls rows r g (subst (λ (x : Explained). T (certified x.judged)) e t), ap explained_returns e ∙ rw told.1.1.1),
    )
