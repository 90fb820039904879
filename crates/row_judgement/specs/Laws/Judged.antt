-- What judging a row tells: the judgement by the bound that decides, that a certified frame is never late, and when the margin is below zero.
use Rattle.std.specs.Prelude.{ℕ, ◌+◌, ◌*◌, ◌/◌, ◌≤◌, ◌<◌, ◌≡◌, List, Bool, T, length, Some, None, Result, Ok, Err}
use Rattle.std.proofs.Math.Path.{refl}
use Rattle.std.proofs.Common.{sym, subst, ◌∙◌, arith, le→leb, leb-true}
use borrow.Author.Tests.{lt-leb, le-leb}
use Rattle.std.proofs.Math.Bool.{true, false}
use Rattle.std.proofs.Math.Dec.{leb}
use Rattle.table_checks.specs.declared.Refusal.{Refusal as TableRefusal}
use Rattle.arith.specs.Laws.Tests.{cond_cases, by-test, and_both}
use Rattle.bus_model.specs.declared.Frame.{Frame}
use Rattle.bus_model.specs.declared.Faults.{Faults}
use Rattle.bus_model.specs.declared.Faults.TheVariants.{Never, Apart}
use Rattle.bus_model.specs.declared.Judgement.{Judgement}
use Rattle.bus_model.specs.Frame.{row}
use Rattle.bus_model.specs.Bus.{MeetsClaim}
use Rattle.bus_model.specs.Bounds.{approximate_bound, precise_bound}
use Rattle.bus_model.specs.Levels.{level_bound}
use Rattle.bus_model.specs.Judgement.{lacks_window, too_many_scenarios, deepest_level, precise_outcome, crowded_outcome, refined_outcome, windowed_outcome, outcome_of, bound_used, margin_of, judge, MarginSign}
use Rattle.bus_model.proofs.Theory.Judged.{certified-meets, margin-sign, certified-meets-under}
use Rattle.bus_model.specs.Valid.{ValidFaults}
use Rattle.table_checks.specs.Columns.{columns, most_numbers, claim_column}
use Rattle.table_checks.specs.Frames.{frames_of}
use Rattle.table_checks.specs.Checks.{loaded_check, Loadable, Accepted}
use Rattle.table_checks.proofs.Laws.Accepted.{length-frames, loaded-both, accepted-size, accepted-valid}
use Rattle.workload.specs.Faults.{FineFaults}
use Rattle.bounds.specs.Find.{bound_for}
use Rattle.row_judgement.specs.declared.Refusal.{Refusal}
use Rattle.row_judgement.specs.Refusal.{of_table}
use Rattle.row_judgement.specs.Judge.{claim_of, no_row, judge_checked, judge_row, is_gap, judge_faults_checked, judge_faults, certified, bound_frame, bound_checked, bound_row}
use Rattle.row_judgement.specs.declared.Cause.TheVariants.{NoSuchRow, GapOutside}
use Rattle.row_judgement.specs.Decide.{judged_by, bounded_by}

-- ---- the bound that decides

module _ (faults : Faults) (fs : List Frame) (k : Frame) where
  -- The judgement by it is the judgement.
  pub decided-judge : (claim : ℕ) → judged_by claim (bound_for faults fs k (Some claim)) ≡ judge faults fs k claim
  unfolding judged_by bound_for judge outcome_of windowed_outcome refined_outcome crowded_outcome precise_outcome bound_used margin_of
  decided-judge claim = go (lacks_window faults fs k) (leb (approximate_bound faults fs k) claim) (too_many_scenarios fs k) (leb (level_bound faults fs k (deepest_level fs k)) claim) (leb (precise_bound faults fs k) claim) refl refl refl refl refl
    where
      go : (lacks met many level fits : Bool) → lacks_window faults fs k ≡ lacks → leb (approximate_bound faults fs k) claim ≡ met → too_many_scenarios fs k ≡ many
          → leb (level_bound faults fs k (deepest_level fs k)) claim ≡ level → leb (precise_bound faults fs k) claim ≡ fits
          → judged_by claim (bound_for faults fs k (Some claim)) ≡ judge faults fs k claim
      go true met many level fits l m n d f = rw l
      go false true many level fits l m n d f = rw (l, m)
      go false false true true fits l m n d f = rw (l, m, n, d)
      go false false true false fits l m n d f = rw (l, m, n, d)
      go false false false level true l m n d f = rw (l, m, n, f)
      go false false false level false l m n d f = rw (l, m, n, f)

-- The precise bound of a row is the one that is found without a claim.
pub decided-bound : (fs : List Frame) (i : ℕ) → bounded_by i (bound_for Never fs (row fs i) None) ≡ bound_frame fs i
unfolding bounded_by bound_for bound_frame
decided-bound fs i = go (lacks_window Never fs (row fs i)) (too_many_scenarios fs (row fs i)) refl refl
  where
    go : (lacks many : Bool) → lacks_window Never fs (row fs i) ≡ lacks → too_many_scenarios fs (row fs i) ≡ many → bounded_by i (bound_for Never fs (row fs i) None) ≡ bound_frame fs i
    go true many l n = rw l
    go false true l n = rw (l, n)
    go false false l n = rw (l, n)

-- ---- a row

-- Lengths and rows that passed their checks pass them together.
pub both-loaded : (ls : List (List ℕ)) (rows : List ℕ) → Loadable ls × Accepted rows → loaded_check ls rows ≡ Ok tt
unfolding loaded_check
both-loaded ls rows (loadable, accepted) = rw (loadable, accepted)

-- A number below the number of rows is one of a row.
pub row_inside : (ls : List (List ℕ)) (rows : List ℕ) {r : ℕ} → r < length rows / columns → r < length (frames_of ls rows)
row_inside ls rows l = rw (length-frames ls rows) l

pub found-inside : (ls : List (List ℕ)) (rows : List ℕ) {i r : ℕ} → (i ≡ r) × (r < length rows / columns) → i < length (frames_of ls rows)
found-inside ls rows (same, less) = row_inside ls rows (rw same less)

-- What is answered of a table that a check turns back,
pub table-refused : (ls : List (List ℕ)) (rows : List ℕ) (r : ℕ) {t : TableRefusal} {f : Refusal} → loaded_check ls rows ≡ Err t → f ≡ of_table t
    → (judge_row ls rows r ≡ Err f) × ((g : ℕ) → judge_faults ls rows r g ≡ Err f) × (bound_row ls rows r ≡ Err f)
unfolding judge_row judge_checked judge_faults judge_faults_checked bound_row bound_checked
table-refused ls rows r turned is = (rw (turned, is), (λ g. rw (turned, is)), rw (turned, is))

-- and of one that passes,
module _ (ls : List (List ℕ)) (rows : List ℕ) (r : ℕ) (passed : loaded_check ls rows ≡ Ok tt) where
  -- where the row is missing,
  pub row-missing : {f : Refusal} → (length rows / columns ≤ r) × (f ≡ record { cause = NoSuchRow; place = 0 })
      → (judge_row ls rows r ≡ Err f) × ((g : ℕ) → judge_faults ls rows r g ≡ Err f) × (bound_row ls rows r ≡ Err f)
  unfolding judge_row judge_checked judge_faults judge_faults_checked bound_row bound_checked
  row-missing (over, is) =
      let no = le-leb (length rows / columns) r over in
      (rw (passed, no, is), (λ g. rw (passed, no, is)), rw (passed, no, is))

  module _ {i : ℕ} (found : (i ≡ r) × (r < length rows / columns)) where
    -- where it is there,
    pub row-judged : judge_row ls rows r ≡ Ok (judge Never (frames_of ls rows) (row (frames_of ls rows) i) (claim_of rows i))
    unfolding judge_row judge_checked
    row-judged = rw (passed, lt-leb (length rows / columns) r found.1, found.0)

    pub row-bounded : bound_row ls rows r ≡ bound_frame (frames_of ls rows) i
    unfolding bound_row bound_checked
    row-bounded = rw (passed, lt-leb (length rows / columns) r found.1, found.0)

    -- where the gap is none, and where it is one.
    module _ (g : ℕ) where
      pub gap-refused : {f : Refusal} → (is_gap g ≡ false) × (f ≡ record { cause = GapOutside; place = 0 }) → judge_faults ls rows r g ≡ Err f
      unfolding judge_faults judge_faults_checked
      gap-refused (outside, is) = rw (passed, lt-leb (length rows / columns) r found.1, outside, is)

      pub row-judged-under : {faults : Faults} → (is_gap g ≡ true) × (faults ≡ Apart g) → judge_faults ls rows r g ≡ Ok (judge faults (frames_of ls rows) (row (frames_of ls rows) i) (claim_of rows i))
      unfolding judge_faults judge_faults_checked
      row-judged-under (inside, is) = rw (passed, lt-leb (length rows / columns) r found.1, inside, is, found.0)

-- The claim stands in the table, which is short.
pub claim-inside : (ls : List (List ℕ)) (rows : List ℕ) → Accepted rows → {i : ℕ} → i < length (frames_of ls rows) → (columns * i + claim_column < length rows) × (length rows ≤ most_numbers)
claim-inside ls rows accepted {i} l =
    let size = accepted-size rows accepted in
    let h : i < length rows / columns = rw (length-frames ls rows) at l in
    (omega arith, size.most)

-- What holds of every refusal, and of the judgement of a row of an accepted table, holds of what judging a row answers.
pub by-judged : (P : Result Judgement Refusal → Type 0) (ls : List (List ℕ)) (rows : List ℕ) (r : ℕ) → ((f : Refusal) → P (Err f))
    → (Loadable ls → Accepted rows → r < length rows / columns → P (Ok (judge Never (frames_of ls rows) (row (frames_of ls rows) r) (claim_of rows r))))
    → P (judge_row ls rows r)
unfolding judge_row judge_checked
by-judged P ls rows r refused given = go (loaded_check ls rows) refl
  where
    go : (checked : Result (Unit {0}) TableRefusal) → loaded_check ls rows ≡ checked → P (judge_checked checked ls rows r)
    go (Err f) e = refused (of_table f)
    go (Ok tt) e =
        cond_cases P (no_row rows r) (λ t. refused _)
        (λ has. let some : ¬ (length rows / columns ≤ r) = λ le. has (le→leb _ _ le) in let both = loaded-both ls rows e in given both.0 both.1 (omega arith))

-- Demand 3: where judging a row certifies its frame, the frame meets its claim.
pub judged-meets : (ls : List (List ℕ)) (rows : List ℕ) (r : ℕ) → T (certified (judge_row ls rows r)) → MeetsClaim Never (frames_of ls rows) r (claim_of rows r)
unfolding certified
judged-meets ls rows r =
    by-judged (λ j. T (certified j) → MeetsClaim Never (frames_of ls rows) r (claim_of rows r)) ls rows r (λ f t. absurd t)
    (λ loadable accepted l. certified-meets (accepted-valid rows accepted ls loadable) (row_inside ls rows l) (claim_of rows r))

-- Where a row is judged, its margin is below zero exactly for verdicts 3 and 12.
pub judged-sign : (ls : List (List ℕ)) (rows : List ℕ) (r : ℕ) (j : Judgement) → judge_row ls rows r ≡ Ok j → MarginSign j
judged-sign ls rows r =
    by-judged (λ answer. (j : Judgement) → answer ≡ Ok j → MarginSign j) ls rows r
    (λ f j e. absurd (let z : ◌≡◌ {A = ℕ} 0 1 = cc in omega arith))
    (λ loadable accepted l j e. let is : judge Never (frames_of ls rows) (row (frames_of ls rows) r) (claim_of rows r) ≡ j = cc in subst MarginSign is (margin-sign Never _ _ _))

-- So what the code answers tells all: it is the judgement, a certified frame meets its claim, and the margin has its sign.
pub answered : (ls : List (List ℕ)) (rows : List ℕ) (r : ℕ) {answer : Result Judgement Refusal} → answer ≡ judge_row ls rows r
    → (answer ≡ judge_row ls rows r) × ((T (certified answer) → MeetsClaim Never (frames_of ls rows) r (claim_of rows r)) × ((j : Judgement) → answer ≡ Ok j → MarginSign j))
answered ls rows r e = (e, (λ t. judged-meets ls rows r (subst (λ j. T (certified j)) e t), λ j is. judged-sign ls rows r j (sym e ∙ is)))

-- ---- under the premise that faults begin at least g ticks apart

-- The gap is within its limits,
pub gap_within : (g : ℕ) → is_gap g ≡ true → (1 ≤ g) × (g ≤ 1000000)
gap_within g t = let (low, high) = and_both (leb 1 g) (leb g 1000000) t in (leb-true 1 g low, leb-true g 1000000 high)

-- those of the code and those of the theory.
pub gap-fine : (g : ℕ) → is_gap g ≡ true → FineFaults (Apart g)
unfolding FineFaults
gap-fine = gap_within

pub premise-fine : (g : ℕ) {faults : Faults} → (is_gap g ≡ true) × (faults ≡ Apart g) → FineFaults faults
premise-fine g (inside, is) = rw is (gap-fine g inside)

gap-valid : (g : ℕ) → is_gap g ≡ true → ValidFaults (Apart g)
unfolding ValidFaults
gap-valid g t = (gap_within g t).0

-- What holds of every refusal, and of the judgement of a row of an accepted table under a premise that is allowed, holds of what judging a row answers.
pub by-faults : (P : Result Judgement Refusal → Type 0) (ls : List (List ℕ)) (rows : List ℕ) (r g : ℕ) → ((f : Refusal) → P (Err f))
    → (Loadable ls → Accepted rows → r < length rows / columns → is_gap g ≡ true → P (Ok (judge (Apart g) (frames_of ls rows) (row (frames_of ls rows) r) (claim_of rows r))))
    → P (judge_faults ls rows r g)
unfolding judge_faults judge_faults_checked
by-faults P ls rows r g refused given = go (loaded_check ls rows) refl
  where
    go : (checked : Result (Unit {0}) TableRefusal) → loaded_check ls rows ≡ checked → P (judge_faults_checked checked ls rows r g)
    go (Err f) e = refused (of_table f)
    go (Ok tt) e =
        cond_cases P (no_row rows r) (λ t. refused _)
        (λ has.
        let some : ¬ (length rows / columns ≤ r) = λ le. has (le→leb _ _ le) in
        let both = loaded-both ls rows e in
        by-test (is_gap g) (λ t. rw t (given both.0 both.1 (omega arith) t)) (λ t. rw t (refused _)))

-- Demand 3 with faults: where judging a row certifies its frame, the frame meets its claim in all schedules with such faults.
pub faults-meets : (ls : List (List ℕ)) (rows : List ℕ) (r g : ℕ) → T (certified (judge_faults ls rows r g)) → MeetsClaim (Apart g) (frames_of ls rows) r (claim_of rows r)
unfolding certified
faults-meets ls rows r g =
    by-faults (λ j. T (certified j) → MeetsClaim (Apart g) (frames_of ls rows) r (claim_of rows r)) ls rows r g (λ f t. absurd t)
    (λ loadable accepted l gap. certified-meets-under (accepted-valid rows accepted ls loadable) (row_inside ls rows l) (Apart g) (gap-valid g gap) (claim_of rows r))

-- Where a row is judged, its margin is below zero exactly for verdicts 3 and 12.
faults-sign : (ls : List (List ℕ)) (rows : List ℕ) (r g : ℕ) (j : Judgement) → judge_faults ls rows r g ≡ Ok j → MarginSign j
faults-sign ls rows r g =
    by-faults (λ answer. (j : Judgement) → answer ≡ Ok j → MarginSign j) ls rows r g
    (λ f j e. absurd (let z : ◌≡◌ {A = ℕ} 0 1 = cc in omega arith))
    (λ loadable accepted l gap j e. let is : judge (Apart g) (frames_of ls rows) (row (frames_of ls rows) r) (claim_of rows r) ≡ j = cc in subst MarginSign is (margin-sign (Apart g) _ _ _))

-- So what the code answers tells all.
pub faults-answered : (ls : List (List ℕ)) (rows : List ℕ) (r g : ℕ) {answer : Result Judgement Refusal} → answer ≡ judge_faults ls rows r g
    → (answer ≡ judge_faults ls rows r g) × ((T (certified answer) → MeetsClaim (Apart g) (frames_of ls rows) r (claim_of rows r)) × ((j : Judgement) → answer ≡ Ok j → MarginSign j))
faults-answered ls rows r g e = (e, (λ t. faults-meets ls rows r g (subst (λ j. T (certified j)) e t), λ j is. faults-sign ls rows r g j (sym e ∙ is)))
