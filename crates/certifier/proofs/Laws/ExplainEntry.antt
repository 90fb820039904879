-- What the entry that shows a case answers, case by case.
use Rattle.std.specs.Prelude.{ℕ, ◌≤◌, ◌<◌, ◌≡◌, refl, List, [], ◌∷◌, ◌++◌, ℤ, pos, neg_ℤ, length, drop, Option, Some, None, Result, Ok, Err}
use borrow.Author.Tests.{lt-ltb, le-ltb}
use Rattle.table_checks.specs.declared.Refusal.{Refusal as TableRefusal}
use Rattle.lengths_file.specs.Lengths.{lengths_of}
use Rattle.lengths_file.specs.Input.{input_check}
use Rattle.bus_model.specs.declared.Case.{Case}
use Rattle.row_judgement.specs.declared.Refusal.{Refusal}
use Rattle.row_judgement.specs.declared.Explained.{Explained}
use Rattle.row_judgement.specs.Explain.{explain_row}
use Rattle.certifier.specs.Encode.{judge_read, judge_file, encode_refusal, encode_judged}
use Rattle.certifier.specs.ExplainEntry.{turned_back, explain_read, explain_file, encode_explained, shown_after}

-- Beside the case stands what judging the row answers.
pub explain-judges : (lengths file : List ℕ) (r : ℕ) → (explain_file lengths file r).judged ≡ judge_file lengths file r
unfolding explain_file judge_file explain_read judge_read explain_row
explain-judges lengths file r = go (input_check lengths file)
  where
    go : (c : Result (Unit {0}) TableRefusal) → (explain_read c (lengths_of lengths) file r).judged ≡ judge_read c (lengths_of lengths) file r
    go (Err f) = refl
    go (Ok tt) = refl

-- what the entry answers, and what it leaves
abbrev pub Shown : Explained → List ℕ → ℤ → List ℕ → Type 0
Shown e old answer new = (answer ≡ encode_explained e (length old)) × (new ≡ shown_after e old)

-- A refusal leaves the area.
pub shown-refused : (e : Explained) (f : Refusal) (old : List ℕ) → e ≡ turned_back f → Shown e old (encode_refusal f) old
unfolding encode_explained shown_after encode_judged
shown-refused e f old is = rw is (refl, refl)

module _ (e : Explained) (old : List ℕ) where
  -- There is no case: the area stays.
  pub shown-none : ((c : Case) → e.breaking ≡ Some c → ⊥) → Shown e old (encode_judged e.judged) old
  unfolding encode_explained shown_after
  shown-none other = go e.breaking refl
    where
      go : (o : Option Case) → e.breaking ≡ o → Shown e old (encode_judged e.judged) old
      go (Some c) is = absurd (other c is)
      go None is = (rw is, rw is)

  module _ (c : Case) (is : e.breaking ≡ Some c) where
    -- The area is too short: 8.
    pub shown-short : length old < 17 → Shown e old (neg_ℤ (pos 80000)) old
    unfolding encode_explained shown_after
    shown-short h = let t = lt-ltb (length old) 17 h in (rw (is, t), rw (is, t))

    -- The case stands at its beginning.
    pub shown-all : 17 ≤ length old → Shown e old (encode_judged e.judged) ((c.alignments ++ (c.instance ∷ [])) ++ drop 17 old)
    unfolding encode_explained shown_after
    shown-all h = let t = le-ltb (length old) 17 h in (rw (is, t), rw (is, t))
