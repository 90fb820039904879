-- The text: how long it is, its last line written column by column, and its parts one behind the other.
use Rattle.std.specs.Prelude.{ℕ, ◌≡◌, List, ◌++◌, length, drop, set, Option, Some, None}
use Rattle.std.proofs.Common.{◌∙◌, append_assoc, append-nil, arith, length-append}
use borrow.Rule.Slice.PartMut.{mid_of, put_mid}
use Rattle.arith.specs.Laws.Overwriting.{begun-none, begun-part, begun-filled, begun-element, begun_all}
use Rattle.bus_model.specs.declared.Faults.TheVariants.{Never}
use Rattle.decimal.specs.Decimal.{write_column}
use Rattle.decimal.specs.Numbered.{numbered_lines}
use Rattle.decimal.specs.Laws.{length-write, length-numbered}
use Rattle.certifier.specs.Listing.{line_of as row_line}
use Rattle.certifier.proofs.Laws.Listing.{listing-lines}
use Rattle.worst_case.specs.declared.WorstCase.{WorstCase}
use Rattle.worst_command.specs.Command.{response_line, worst_text}

-- ---- the lines

length-row : (ls : List (List ℕ)) (rows : List ℕ) (i : ℕ) → length (row_line Never ls rows i) ≡ 31
length-row ls rows i = (listing-lines Never ls rows).wide i

length-response : (instance response : ℕ) → length (response_line instance response) ≡ 17
unfolding response_line
length-response instance response = simp (length-append, length-write)

-- The two columns and the line feed, one behind the other, are the last line.
pub response-written : (instance response : ℕ) (line a b : List ℕ) → length line ≡ 17
    → a ≡ write_column (length (mid_of 0 8 line)) instance
    → b ≡ write_column (length (mid_of 8 8 (put_mid 0 8 line a))) response
    → set (put_mid 8 8 (put_mid 0 8 line a) b) 16 10 ≡ response_line instance response
unfolding response_line
response-written instance response line a b size p q =
    let one = begun-filled _ line _ 0 (begun-none line) (λ w. write_column w instance) (λ w. length-write w instance) a 8 (omega arith) p in
    let two = begun-filled _ line _ 8 one (λ w. write_column w response) (λ w. length-write w response) b 8 (omega arith) q in
    begun_all _ line _ 17 (begun-element _ line _ 16 two 10 (omega arith)) size ∙ simp append_assoc

-- ---- the text with a worst case

module _ (ls : List (List ℕ)) (rows : List ℕ) (i : ℕ) (starts : List ℕ) (instance response : ℕ) where
  abbrev pub whole : List ℕ
  whole = row_line Never ls rows i ++ (numbered_lines 8 starts 16 0 ++ response_line instance response)

  pub length_whole : length whole ≡ 240
  length_whole =
      length-append (row_line Never ls rows i) (numbered_lines 8 starts 16 0 ++ response_line instance response)
      ∙ omega (arith, length-row ls rows i, length-append (numbered_lines 8 starts 16 0) (response_line instance response), length-numbered 8 starts 16, length-response instance response)

  pub whole-written : (out a b c : List ℕ) → a ≡ row_line Never ls rows i → b ≡ numbered_lines 8 starts 16 0 → c ≡ response_line instance response
      → put_mid 223 17 (put_mid 31 192 (put_mid 0 31 out a) b) c ≡ whole ++ drop 240 out
  whole-written out a b c p q r =
      let one = begun-part _ out _ 0 (begun-none out) (row_line Never ls rows i) 31 (length-row ls rows i) in
      let two = begun-part _ out _ 31 one (numbered_lines 8 starts 16 0) 192 (length-numbered 8 starts 16) in
      let three = begun-part _ out _ 223 two (response_line instance response) 17 (length-response instance response) in
      rw (p, q, r) (three.is ∙ simp append_assoc)

-- ---- the line alone

pub length-alone : (ls : List (List ℕ)) (rows : List ℕ) (i : ℕ) → length (row_line Never ls rows i) ≡ 31
length-alone = length-row

pub alone-written : (ls : List (List ℕ)) (rows : List ℕ) (i : ℕ) (out a : List ℕ) → a ≡ row_line Never ls rows i → put_mid 0 31 out a ≡ row_line Never ls rows i ++ drop 31 out
alone-written ls rows i out a p = rw p (begun-part _ out _ 0 (begun-none out) (row_line Never ls rows i) 31 (length-row ls rows i)).is

-- ---- by what is shown

pub text-none : (o : Option WorstCase) (line : List ℕ) → o ≡ None → line ++ worst_text o ≡ line
unfolding worst_text
text-none o line is = rw is (append-nil line)

pub text-shown : (o : Option WorstCase) (line : List ℕ) (w : WorstCase) → o ≡ Some w → line ++ worst_text o ≡ line ++ (numbered_lines 8 w.starts 16 0 ++ response_line w.instance w.response)
unfolding worst_text
text-shown o line w is = rw is
