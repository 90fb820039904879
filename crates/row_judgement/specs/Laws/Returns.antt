-- What is returned in numbers: it settles the answer, and comes in document 01's order.
use Rattle.std.specs.Prelude.{ℕ, ◌≤◌, ◌≡◌, refl, List, cond, T, eqb, Result, Ok, Err}
use Rattle.std.proofs.Common.{sym, ap, ◌∙◌, arith, eq-eqb, ne_eqb}
use Rattle.table_checks.specs.declared.Refusal.{Refusal as TableRefusal}
use Rattle.arith.specs.Laws.Tests.{cond_map}
use Rattle.bus_model.specs.declared.Judgement.{Judgement}
use Rattle.bus_model.specs.Frame.{row}
use Rattle.bus_model.specs.Bus.{MeetsClaim}
use Rattle.bus_model.specs.Judgement.{judge, MarginSign}
use Rattle.bus_model.proofs.Theory.Finding.{Whole, judge-whole, judgement_by, judgement-back, judge-finds}
use Rattle.bus_model.specs.declared.Faults.TheVariants.{Never, Apart}
use Rattle.table_checks.specs.Frames.{frames_of}
use Rattle.table_checks.specs.Refusal.{number_of as table_number_of, check_returns}
use Rattle.table_checks.specs.Checks.{loaded_check}
use Rattle.table_checks.specs.Returns.{loaded_returns}
use Rattle.table_checks.proofs.Laws.Returns.{number-range as table-number-range, number-some as table-number-some, cause_of as table_cause_of, cause-back as table-cause-back, loaded-returned}
use Rattle.row_judgement.specs.declared.Cause.{Cause}
use Rattle.row_judgement.specs.declared.Cause.TheVariants.{Table, NoSuchRow, NoWindow, TooManyScenarios, GapOutside}
use Rattle.row_judgement.specs.declared.Refusal.{Refusal}
use Rattle.row_judgement.specs.Refusal.{number_of}
use Rattle.row_judgement.specs.Judge.{claim_of, no_row, judge_checked, judge_row, is_gap, judge_faults_checked, judge_faults, certified, bound_frame, bound_checked, bound_row}
use Rattle.row_judgement.specs.Returns.{JudgedReturned, judged_returns, judge_returns, judge_faults_returns, BoundedReturned, bounded_returns, bound_returns}
use Rattle.row_judgement.specs.Laws.Judged.{by-judged, answered, by-faults, faults-answered}

-- ---- the causes

-- The numbers are 1 to 17.
pub number-range : (cause : Cause) → (1 ≤ number_of cause) × (number_of cause ≤ 17)
unfolding number_of
number-range (Table cause) = let r = table-number-range cause in omega arith
number-range NoSuchRow = omega arith
number-range NoWindow = omega arith
number-range TooManyScenarios = omega arith
number-range GapOutside = omega arith

pub number-some : (cause : Cause) → number_of cause ≡ 0 → ⊥
number-some cause e = let r = number-range cause in omega arith

-- the cause with a number: the table's, or one of these
cause_of : ℕ → Cause
cause_of number =
    cond (eqb (table_number_of (table_cause_of number)) number) (Table (table_cause_of number))
    (cond (eqb number 9) NoSuchRow (cond (eqb number 11) NoWindow (cond (eqb number 12) TooManyScenarios GapOutside)))

cause-back : (cause : Cause) → cause_of (number_of cause) ≡ cause
unfolding cause_of number_of table_number_of table_cause_of
cause-back (Table cause) = rw (table-cause-back cause, eq-eqb (table_number_of cause) _ refl)
cause-back NoSuchRow = refl
cause-back NoWindow = refl
cause-back TooManyScenarios = refl
cause-back GapOutside = refl

-- No two causes have one number.
pub number-settles : (a b : Cause) → number_of a ≡ number_of b → a ≡ b
number-settles a b e = sym (cause-back a) ∙ ap cause_of e ∙ cause-back b

refusal_of : ℕ → ℕ → Refusal
refusal_of number place = record { cause = cause_of number; place = place }

-- ---- judging a row

-- the answer that returns these numbers
judged_of : JudgedReturned → Result Judgement Refusal
judged_of r =
    cond (eqb r.number 0) (Ok (judgement_by (record { verdict = r.verdict; bound = r.bound; margin = r.margin })))
    (Err (refusal_of r.number r.place))

-- the bound beside the outcome is the one that the outcome holds
abbrev pub JudgedWhole : Result Judgement Refusal → Type 0
JudgedWhole (Ok j) = Whole j
JudgedWhole (Err f) = Unit {0}

judged-back : (j : Result Judgement Refusal) → JudgedWhole j → judged_of (judged_returns j) ≡ j
unfolding judged_of judged_returns refusal_of
judged-back (Ok j) whole = ap Ok (judgement-back j whole)
judged-back (Err f) whole = rw (ne_eqb _ _ (number-some f.cause), cause-back f.cause)

-- Answers that return the same are the same,
pub judged-settles : (a b : Result Judgement Refusal) → JudgedWhole a → JudgedWhole b → judged_returns a ≡ judged_returns b → a ≡ b
judged-settles a b p q e = sym (judged-back a p) ∙ ap judged_of e ∙ judged-back b q

-- and what judging a row answers is such an answer.
pub judged-whole : (ls : List (List ℕ)) (rows : List ℕ) (r : ℕ) → JudgedWhole (judge_row ls rows r)
judged-whole ls rows r =
    by-judged JudgedWhole ls rows r (λ f. tt) (λ loadable accepted l. judge-whole Never (frames_of ls rows) (row (frames_of ls rows) r) (claim_of rows r))

judge-returned : (check : Result (Unit {0}) TableRefusal) (ls : List (List ℕ)) (rows : List ℕ) (r : ℕ) → judged_returns (judge_checked check ls rows r) ≡ judge_returns (check_returns check) ls rows r
unfolding number_of check_returns judged_returns judge_returns judge_checked
judge-returned (Ok _) ls rows r = cond_map judged_returns (no_row rows r) _ _ ∙ rw (judge-finds Never (frames_of ls rows) (row (frames_of ls rows) r) (claim_of rows r))
judge-returned (Err f) ls rows r = rw (ne_eqb _ _ (table-number-some f.cause))

-- What the code answers is told in numbers too.
pub judged-told : (ls : List (List ℕ)) (rows : List ℕ) (r : ℕ) {answer : Result Judgement Refusal} → answer ≡ judge_row ls rows r
    → (answer ≡ judge_row ls rows r) × ((T (certified answer) → MeetsClaim Never (frames_of ls rows) r (claim_of rows r)) × (((j : Judgement) → answer ≡ Ok j → MarginSign j) × (judged_returns answer ≡ judge_returns (loaded_returns ls rows) ls rows r)))
unfolding judge_row
judged-told ls rows r e =
    let (is, (never-late, sign)) = answered ls rows r e in
    (is, (never-late, (sign, ap judged_returns e ∙ judge-returned (loaded_check ls rows) ls rows r ∙ rw (loaded-returned ls rows))))

-- ---- under the premise that faults begin at least g ticks apart

pub faults-whole : (ls : List (List ℕ)) (rows : List ℕ) (r g : ℕ) → JudgedWhole (judge_faults ls rows r g)
faults-whole ls rows r g =
    by-faults JudgedWhole ls rows r g (λ f. tt) (λ loadable accepted l gap. judge-whole (Apart g) (frames_of ls rows) (row (frames_of ls rows) r) (claim_of rows r))

faults-returned : (check : Result (Unit {0}) TableRefusal) (ls : List (List ℕ)) (rows : List ℕ) (r g : ℕ) → judged_returns (judge_faults_checked check ls rows r g) ≡ judge_faults_returns (check_returns check) ls rows r g
unfolding number_of check_returns judged_returns judge_faults_returns judge_faults_checked
faults-returned (Ok _) ls rows r g =
    cond_map judged_returns (no_row rows r) _ _
    ∙ rw (cond_map judged_returns (is_gap g) (Ok (judge (Apart g) (frames_of ls rows) (row (frames_of ls rows) r) (claim_of rows r))) (Err (record { cause = GapOutside; place = 0 })), judge-finds (Apart g) (frames_of ls rows) (row (frames_of ls rows) r) (claim_of rows r))
faults-returned (Err f) ls rows r g = rw (ne_eqb _ _ (table-number-some f.cause))

-- What the code answers is told in numbers too.
pub faults-told : (ls : List (List ℕ)) (rows : List ℕ) (r g : ℕ) {answer : Result Judgement Refusal} → answer ≡ judge_faults ls rows r g
    → (answer ≡ judge_faults ls rows r g) × ((T (certified answer) → MeetsClaim (Apart g) (frames_of ls rows) r (claim_of rows r)) × (((j : Judgement) → answer ≡ Ok j → MarginSign j) × (judged_returns answer ≡ judge_faults_returns (loaded_returns ls rows) ls rows r g)))
unfolding judge_faults
faults-told ls rows r g e =
    let (is, (never-late, sign)) = faults-answered ls rows r g e in
    (is, (never-late, (sign, ap judged_returns e ∙ faults-returned (loaded_check ls rows) ls rows r g ∙ rw (loaded-returned ls rows))))

-- ---- the precise bound alone

-- the answer that returns these numbers
bounded_of : BoundedReturned → Result ℕ Refusal
bounded_of r = cond (eqb r.number 0) (Ok r.bound) (Err (refusal_of r.number r.place))

bounded-back : (b : Result ℕ Refusal) → bounded_of (bounded_returns b) ≡ b
unfolding bounded_of bounded_returns refusal_of
bounded-back (Ok b) = refl
bounded-back (Err f) = rw (ne_eqb _ _ (number-some f.cause), cause-back f.cause)

-- Answers that return the same are the same.
pub bounded-settles : (a b : Result ℕ Refusal) → bounded_returns a ≡ bounded_returns b → a ≡ b
bounded-settles a b e = sym (bounded-back a) ∙ ap bounded_of e ∙ bounded-back b

bound-returned : (check : Result (Unit {0}) TableRefusal) (ls : List (List ℕ)) (rows : List ℕ) (r : ℕ) → bounded_returns (bound_checked check ls rows r) ≡ bound_returns (check_returns check) ls rows r
unfolding number_of check_returns bounded_returns bound_returns bound_checked bound_frame
bound-returned (Ok _) ls rows r = simp (cond_map bounded_returns)
bound-returned (Err f) ls rows r = rw (ne_eqb _ _ (table-number-some f.cause))

-- What the code answers is told in numbers too.
pub bounded-told : (ls : List (List ℕ)) (rows : List ℕ) (r : ℕ) {b : Result ℕ Refusal} → b ≡ bound_row ls rows r
    → (b ≡ bound_row ls rows r) × (bounded_returns b ≡ bound_returns (loaded_returns ls rows) ls rows r)
unfolding bound_row
bounded-told ls rows r e = (e, ap bounded_returns e ∙ bound-returned (loaded_check ls rows) ls rows r ∙ rw (loaded-returned ls rows))
