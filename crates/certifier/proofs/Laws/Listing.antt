-- The lines of the listing: how long they are, and a line written column by column.
use Rattle.std.specs.Prelude.{ℕ, ◌*◌, ◌/◌, ◌≤◌, ◌≡◌, refl, List, ◌++◌, ℤ, length, set, drop}
use Rattle.std.proofs.Common.{◌∙◌, append_assoc, arith, length-append}
use borrow.Rule.Slice.PartMut.{mid_of, put_mid}
use Rattle.arith.specs.Laws.Overwriting.{begun-none, begun-filled, begun-element, begun_all}
use Rattle.arith.specs.Laws.Lines.{Lines, length-lines}
use Rattle.decimal.specs.Decimal.{write_column, write_signed}
use Rattle.decimal.specs.Laws.{length-write, length-signed}
use Rattle.bus_model.specs.declared.Faults.{Faults}
use Rattle.bus_model.specs.declared.Judgement.{Judgement}
use Rattle.bus_model.specs.Judgement.{verdict}
use Rattle.table_checks.specs.Columns.{columns}
use Rattle.certifier.specs.Listing.{listing_line, line_of, lines_from, listing_of, refusal_line}

-- A line has 31 characters.
pub length-line : (identifier : ℕ) (j : Judgement) → length (listing_line identifier j) ≡ 31
unfolding listing_line
length-line identifier j = simp (length-append, length-write, length-signed)

-- The lines of a listing, of 31 characters each.
pub listing-lines : (faults : Faults) (ls : List (List ℕ)) (rows : List ℕ) → Lines 31 (line_of faults ls rows) (lines_from faults ls rows)
unfolding line_of
listing-lines faults ls rows = record { wide = λ i. length-line _ _; none = λ i. refl; more = λ n i. refl }

pub length-listing : (faults : Faults) (ls : List (List ℕ)) (rows : List ℕ) → length (listing_of faults ls rows) ≡ 31 * (length rows / columns)
unfolding listing_of
length-listing faults ls rows = length-lines (listing-lines faults ls rows) (length rows / columns) 0

-- The four columns and the line feed, one behind the other, are the line.
pub line-written : (identifier v : ℕ) (m : ℤ) (j : Judgement) (line a b c d : List ℕ) → length line ≡ 31 → v ≡ verdict j.outcome → m ≡ j.margin
    → a ≡ write_column (length (mid_of 0 10 line)) identifier
    → b ≡ write_column (length (mid_of 10 3 (put_mid 0 10 line a))) v
    → c ≡ write_column (length (mid_of 13 8 (put_mid 10 3 (put_mid 0 10 line a) b))) j.bound
    → d ≡ write_signed (length (mid_of 21 9 (put_mid 13 8 (put_mid 10 3 (put_mid 0 10 line a) b) c))) m
    → set (put_mid 21 9 (put_mid 13 8 (put_mid 10 3 (put_mid 0 10 line a) b) c) d) 30 10 ≡ listing_line identifier j
unfolding listing_line
line-written identifier v m j line a b c d size verdict-is margin-is p q r s =
    let one = begun-filled _ line _ 0 (begun-none line) (λ w. write_column w identifier) (λ w. length-write w identifier) a 10 (omega arith) p in
    let two = begun-filled _ line _ 10 one (λ w. write_column w v) (λ w. length-write w v) b 3 (omega arith) q in
    let three = begun-filled _ line _ 13 two (λ w. write_column w j.bound) (λ w. length-write w j.bound) c 8 (omega arith) r in
    let four = begun-filled _ line _ 21 three (λ w. write_signed w m) (λ w. length-signed w m) d 9 (omega arith) s in
    begun_all _ line _ 31 (begun-element _ line _ 30 four 10 (omega arith)) size ∙ simp (append_assoc, verdict-is, margin-is)

-- ---- the line of a refusal

pub length-refusal : (number place : ℕ) → length (refusal_line number place) ≡ 10
unfolding refusal_line
length-refusal number place = simp (length-append, length-write)

-- The two columns and the line feed, one behind the other, are the line, and what stood behind it stays.
pub refusal-written : (number n place : ℕ) (out a b : List ℕ) → 10 ≤ length out → n ≡ number
    → a ≡ write_column (length (mid_of 0 3 out)) n
    → b ≡ write_column (length (mid_of 3 6 (put_mid 0 3 out a))) place
    → set (put_mid 3 6 (put_mid 0 3 out a) b) 9 10 ≡ refusal_line number place ++ drop 10 out
unfolding refusal_line
refusal-written number n place out a b room number_is p q =
    let one = begun-filled _ out _ 0 (begun-none out) (λ w. write_column w n) (λ w. length-write w n) a 3 (omega arith) p in
    let two = begun-filled _ out _ 3 one (λ w. write_column w place) (λ w. length-write w place) b 6 (omega arith) q in
    (begun-element _ out _ 9 two 10 (omega arith)).is ∙ simp (append_assoc, number_is)
