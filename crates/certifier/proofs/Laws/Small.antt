-- Bound and margin of a judgement are small.
use Rattle.std.specs.Prelude.{ℕ, ◌+◌, ◌-◌, ◌≤◌, ◌≡◌, refl, List, ℤ, pos, ◌+ℤ◌, ◌-ℤ◌, Result, Ok, Err}
use Rattle.std.proofs.Common.{arith}
use Rattle.arith.specs.Laws.Signed.{add-sub}
use Rattle.bus_model.specs.declared.Outcome.{Outcome}
use Rattle.bus_model.specs.declared.Outcome.TheVariants.{CertifiedApproximate, CertifiedPrecise, ClaimTooSmall, CertifiedLevel, Undecided, NoWindow}
use Rattle.bus_model.specs.Bounds.{window_limit}
use Rattle.bus_model.specs.Judgement.{bound_used, margin_of, judge}
use Rattle.bus_model.proofs.Theory.Judged.{judged-le-limit}
use Rattle.bus_model.specs.declared.Faults.TheVariants.{Never, Apart}
use Rattle.table_checks.proofs.Laws.Accepted.{accepted-limits, accepted-valid}
use Rattle.row_judgement.specs.Judge.{claim_of, judge_row, judge_faults}
use Rattle.row_judgement.specs.Laws.Judged.{row_inside, by-judged, by-faults}
use Rattle.table_checks.specs.declared.Refusal.{Refusal as TableRefusal}
use Rattle.frame_table.specs.Text.{fields_of}
use Rattle.lengths_file.specs.Lengths.{lengths_of}
use Rattle.lengths_file.specs.Input.{input_check}
use Rattle.certifier.specs.Encode.{judge_read, judge_file}
use Rattle.certifier.specs.FaultsEntry.{judge_faults_read, judge_faults_file}
use Rattle.certifier.specs.Steps.{Encodable}

-- a signed number and a million are a number up to two million
abbrev Small : ℤ → Type 0
Small z = (n : ℕ) × (pos 1000000 +ℤ z ≡ pos n) × (n ≤ 2000000)

difference-small : (claim b : ℕ) → claim ≤ 1000000 → b ≤ 1000000 → Small (pos claim -ℤ pos b)
difference-small claim b p q = (1000000 + claim - b, add-sub 1000000 claim b (omega arith), omega arith)

margin-small : (claim : ℕ) (o : Outcome) → claim ≤ 1000000 → bound_used o ≤ 1000000 → Small (margin_of claim o)
unfolding bound_used margin_of
margin-small claim (CertifiedApproximate b) p q = difference-small claim b p q
margin-small claim (CertifiedPrecise b) p q = difference-small claim b p q
margin-small claim (ClaimTooSmall b) p q = difference-small claim b p q
margin-small claim (CertifiedLevel b) p q = difference-small claim b p q
margin-small claim (Undecided b) p q = difference-small claim b p q
margin-small claim NoWindow p q = (1000000, refl, omega arith)

-- Bound and margin of a judgement are small enough for one number.
pub judged-encodable : (ls : List (List ℕ)) (rows : List ℕ) (r : ℕ) → Encodable (judge_row ls rows r)
unfolding window_limit judge
judged-encodable ls rows r =
    by-judged Encodable ls rows r (λ f. tt)
    (λ loadable accepted l.
    let b = judged-le-limit (accepted-valid rows accepted ls loadable) (row_inside ls rows l) Never (claim_of rows r) in
    (b, margin-small (claim_of rows r) _ (accepted-limits rows accepted r l).claim-max b))

pub faults-encodable : (ls : List (List ℕ)) (rows : List ℕ) (r g : ℕ) → Encodable (judge_faults ls rows r g)
unfolding window_limit judge
faults-encodable ls rows r g =
    by-faults Encodable ls rows r g (λ f. tt)
    (λ loadable accepted l gap.
    let b = judged-le-limit (accepted-valid rows accepted ls loadable) (row_inside ls rows l) (Apart g) (claim_of rows r) in
    (b, margin-small (claim_of rows r) _ (accepted-limits rows accepted r l).claim-max b))

-- The same of files.
pub file-encodable : (lengths file : List ℕ) (r : ℕ) → Encodable (judge_file lengths file r)
unfolding judge_file judge_read
file-encodable lengths file r = go (input_check lengths file)
  where
    go : (c : Result (Unit {0}) TableRefusal) → Encodable (judge_read c (lengths_of lengths) file r)
    go (Err f) = tt
    go (Ok tt) = judged-encodable (lengths_of lengths) (fields_of file) r

pub file-faults-encodable : (lengths file : List ℕ) (r g : ℕ) → Encodable (judge_faults_file lengths file r g)
unfolding judge_faults_file judge_faults_read
file-faults-encodable lengths file r g = go (input_check lengths file)
  where
    go : (c : Result (Unit {0}) TableRefusal) → Encodable (judge_faults_read c (lengths_of lengths) file r g)
    go (Err f) = tt
    go (Ok tt) = faults-encodable (lengths_of lengths) (fields_of file) r g
