-- The text goes by the answer and the case.
use Rattle.std.specs.Prelude.{ℕ, ◌+◌, ◌-◌, ◌/◌, ◌<◌, ◌≡◌, refl, List, ◌++◌, length, drop, Option, Some, None, Ok, Err}
use Rattle.std.proofs.Common.{sym, ◌∙◌, append_assoc, append-nil, arith, length-append}
use borrow.Rule.Slice.PartMut.{put_mid}
use Rattle.arith.specs.Laws.Overwriting.{begun-none, begun-part}
use Rattle.bus_model.specs.declared.Case.{Case}
use Rattle.bus_model.specs.declared.Judgement.{Judgement}
use Rattle.decimal.specs.Numbered.{numbered_lines}
use Rattle.decimal.specs.Laws.{length-numbered}
use Rattle.table_checks.specs.Columns.{columns}
use Rattle.row_judgement.specs.declared.Refusal.{Refusal}
use Rattle.row_judgement.specs.declared.Explained.{Explained}
use Rattle.row_judgement.specs.Refusal.{number_of}
use Rattle.row_judgement.specs.Judge.{judge_row}
use Rattle.row_judgement.specs.Laws.Judged.{by-judged}
use Rattle.certifier.specs.Listing.{listing_line, refusal_line}
use Rattle.certifier.proofs.Laws.Listing.{length-line}
use Rattle.explain_command.specs.Command.{instance_width, instance_line, case_text, text_of}
use Rattle.explain_command.specs.Laws.Lines.{length-instance}

-- ---- an answer's text

pub text-refused : (identifier : ℕ) (e : Explained) (f : Refusal) → e.judged ≡ Err f → text_of identifier e ≡ refusal_line (number_of f.cause) f.place
unfolding text_of
text-refused identifier e f is = rw is

pub text-turned : (identifier : ℕ) (f : Refusal) → text_of identifier (record { judged = Err f; breaking = None }) ≡ refusal_line (number_of f.cause) f.place
unfolding text_of
text-turned identifier f = refl

pub text-judged : (identifier : ℕ) (e : Explained) (j : Judgement) → e.judged ≡ Ok j → text_of identifier e ≡ listing_line identifier j ++ case_text e.breaking
unfolding text_of
text-judged identifier e j is = rw is

-- A row that is judged stands in the table.
pub judged-inside : (ls : List (List ℕ)) (rows : List ℕ) (r : ℕ) (j : Judgement) → judge_row ls rows r ≡ Ok j → r < length rows / columns
judged-inside ls rows r =
    by-judged (λ answer. (j : Judgement) → answer ≡ Ok j → r < length rows / columns) ls rows r
    (λ f j e. absurd (let z : ◌≡◌ {A = ℕ} 0 1 = cc in omega arith)) (λ loadable accepted l j e. l)

-- ---- a case's text

pub text-none : (o : Option Case) (line : List ℕ) → o ≡ None → line ++ case_text o ≡ line
unfolding case_text
text-none o line is = rw is (append-nil line)

pub text-case : (o : Option Case) (c : Case) → o ≡ Some c → case_text o ≡ numbered_lines 8 c.alignments 16 0 ++ instance_line c.instance
unfolding case_text
text-case o c is = rw is

module _ (identifier : ℕ) (j : Judgement) (alignments : List ℕ) (q : ℕ) where
  pub length-case : length (listing_line identifier j ++ (numbered_lines 8 alignments 16 0 ++ instance_line q)) ≡ 31 + 192 + instance_width q + 1
  length-case =
      length-append (listing_line identifier j) (numbered_lines 8 alignments 16 0 ++ instance_line q)
      ∙ omega (arith, length-append (numbered_lines 8 alignments 16 0) (instance_line q), length-line identifier j, length-numbered 8 alignments 16, length-instance q)

  -- The three parts, one behind the other.
  pub case-written : (out a b c : List ℕ) (end : ℕ) → end ≡ 31 + 192 + instance_width q + 1
      → a ≡ listing_line identifier j → b ≡ numbered_lines 8 alignments 16 0 → c ≡ instance_line q
      → put_mid 223 (end - 223) (put_mid 31 192 (put_mid 0 31 out a) b) c ≡ (listing_line identifier j ++ (numbered_lines 8 alignments 16 0 ++ instance_line q)) ++ drop end out
  case-written out a b c end is p r s =
      let wide : end - 223 ≡ instance_width q + 1 = omega arith in
      let all : 223 + (end - 223) ≡ end = omega arith in
      let one = begun-part _ out _ 0 (begun-none out) (listing_line identifier j) 31 (length-line identifier j) in
      let two = begun-part _ out _ 31 one (numbered_lines 8 alignments 16 0) 192 (length-numbered 8 alignments 16) in
      let three = begun-part _ out _ 223 two (instance_line q) (end - 223) (length-instance q ∙ sym wide) in
      rw (p, r, s) (three.is ∙ rw (all, append_assoc (listing_line identifier j) (numbered_lines 8 alignments 16 0) (instance_line q)))
