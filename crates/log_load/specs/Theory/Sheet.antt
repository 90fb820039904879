-- The sheet as code finds and writes it.
use Rattle.std.specs.Prelude.{ℕ, ◌+◌, ◌-◌, ◌*◌, ◌/◌, ◌≤◌, max, ◌≡◌, refl, List, [], ◌∷◌, ◌++◌, length, set, drop}
use Rattle.std.proofs.Common.{◌∙◌, append_assoc, append-nil, arith, length-append, length-take, length-drop}
use borrow.Rule.Slice.PartMut.{mid_of, put_mid}
use Rattle.std.proofs.Math.Seq.{drop-length}
use Rattle.arith.specs.Lists.{sum, greatest, keep}
use Rattle.arith.specs.Laws.Tests.{by-test}
use Rattle.arith.specs.Laws.Overwriting.{begun-none, begun-part, begun-filled, begun-element, begun_all}
use Rattle.arith.specs.Laws.Lines.{Lines, length-lines}
use Rattle.decimal.specs.Decimal.{write_column}
use Rattle.decimal.specs.Laws.{length-write}
use Rattle.table_checks.specs.Columns.{columns}
use Rattle.bus_log.specs.declared.Line.{Line}
use Rattle.bus_log.specs.Log.{is_named}
use Rattle.log_load.specs.declared.Seen.{Seen}
use Rattle.log_load.specs.Busy.{most_busy, first_busiest}
use Rattle.log_load.specs.Sheet.{response, of_row, seen_of, first_line, row_line, line_of, lines_from, sheet_of}
use Rattle.log_load.specs.Steps.{with_line}

-- ---- what is seen of a row

-- of two parts of a log together
abbrev pub joined : Seen → Seen → Seen
joined a b = record { count = a.count + b.count; most = max a.most b.most; total = a.total + b.total }

same_seen : (a b c d e f : ℕ) → a ≡ d → b ≡ e → c ≡ f → ◌≡◌ {A = Seen} (record { count = a; most = b; total = c }) (record { count = d; most = e; total = f })
same_seen a b c d e f p q r = rw (p, q, r)

more-most : (a : ℕ) (l : Line) (xs : List Line) → max a (greatest response (l ∷ xs)) ≡ max (max a (response l)) (greatest response xs)
unfolding greatest
more-most a l xs = omega arith

more-total : (a : ℕ) (l : Line) (xs : List Line) → a + sum response (l ∷ xs) ≡ a + response l + sum response xs
unfolding sum
more-total a l xs = omega arith

module _ (rows : List ℕ) (i : ℕ) where
  -- A line more.
  pub seen_more : (s next : Seen) (l : Line) (ls : List Line) → next ≡ with_line rows i l s → joined s (seen_of rows i (l ∷ ls)) ≡ joined next (seen_of rows i ls)
  unfolding with_line seen_of of_row keep
  seen_more s next l ls e =
      by-test (is_named rows l i)
      (λ t. rw (e, t) (same_seen _ _ _ _ _ _ (omega arith) (more-most s.most l _) (more-total s.total l _)))
      (λ f. rw (e, f))

  -- The first line is met with nothing seen,
  pub seen_start : (log : List Line) → joined (record { count = 0; most = 0; total = 0 }) (seen_of rows i log) ≡ seen_of rows i log
  unfolding seen_of
  seen_start log = same_seen _ _ _ _ _ _ (omega arith) (omega arith) (omega arith)

  -- and after the last nothing is left.
  pub seen_end : (s : Seen) → joined s (seen_of rows i []) ≡ s
  unfolding seen_of of_row keep greatest sum
  seen_end s = same_seen _ _ _ _ _ _ (omega arith) (omega arith) (omega arith)

-- ---- the text

pub length-first : (a b : ℕ) → length (first_line a b) ≡ 23
unfolding first_line
length-first a b = simp (length-append, length-write)

length-row : (identifier : ℕ) (s : Seen) → length (row_line identifier s) ≡ 42
unfolding row_line
length-row identifier s = simp (length-append, length-write)

-- The lines of the rows, of 42 characters each.
pub row-lines : (rows : List ℕ) (log : List Line) → Lines 42 (line_of rows log) (lines_from rows log)
unfolding line_of
row-lines rows log = record { wide = λ i. length-row _ _; none = λ i. refl; more = λ n i. refl }

pub length-sheet : (rows : List ℕ) (log : List Line) (w : ℕ) → length (sheet_of rows log w) ≡ 23 + 42 * (length rows / columns)
unfolding sheet_of
length-sheet rows log w =
    length-append (first_line (most_busy log w) (first_busiest log w)) (lines_from rows log (length rows / columns) 0)
    ∙ omega (arith, length-first (most_busy log w) (first_busiest log w), length-lines (row-lines rows log) (length rows / columns) 0)

-- The four columns and the line feed, one behind the other, are the line.
pub row_written : (identifier : ℕ) (s : Seen) (line a b c d : List ℕ) → length line ≡ 42
    → a ≡ write_column (length (mid_of 0 10 line)) identifier
    → b ≡ write_column (length (mid_of 10 5 (put_mid 0 10 line a))) s.count
    → c ≡ write_column (length (mid_of 15 11 (put_mid 10 5 (put_mid 0 10 line a) b))) s.most
    → d ≡ write_column (length (mid_of 26 15 (put_mid 15 11 (put_mid 10 5 (put_mid 0 10 line a) b) c))) s.total
    → set (put_mid 26 15 (put_mid 15 11 (put_mid 10 5 (put_mid 0 10 line a) b) c) d) 41 10 ≡ row_line identifier s
unfolding row_line
row_written identifier s line a b c d size p q r t =
    let one = begun-filled _ line _ 0 (begun-none line) (λ w. write_column w identifier) (λ w. length-write w identifier) a 10 (omega arith) p in
    let two = begun-filled _ line _ 10 one (λ w. write_column w s.count) (λ w. length-write w s.count) b 5 (omega arith) q in
    let three = begun-filled _ line _ 15 two (λ w. write_column w s.most) (λ w. length-write w s.most) c 11 (omega arith) r in
    let four = begun-filled _ line _ 26 three (λ w. write_column w s.total) (λ w. length-write w s.total) d 15 (omega arith) t in
    begun_all _ line _ 42 (begun-element _ line _ 41 four 10 (omega arith)) size ∙ simp append_assoc

pub first-written : (x y : ℕ) (line a b : List ℕ) → length line ≡ 23
    → a ≡ write_column (length (mid_of 0 11 line)) x
    → b ≡ write_column (length (mid_of 11 11 (put_mid 0 11 line a))) y
    → set (put_mid 11 11 (put_mid 0 11 line a) b) 22 10 ≡ first_line x y
unfolding first_line
first-written x y line a b size p q =
    let one = begun-filled _ line _ 0 (begun-none line) (λ w. write_column w x) (λ w. length-write w x) a 11 (omega arith) p in
    let two = begun-filled _ line _ 11 one (λ w. write_column w y) (λ w. length-write w y) b 11 (omega arith) q in
    begun_all _ line _ 23 (begun-element _ line _ 22 two 10 (omega arith)) size ∙ simp append_assoc

-- What is left for the rows behind the first line.
pub rest-long : (old a : List ℕ) (n size x y : ℕ) → a ≡ first_line x y → size ≡ 23 + 42 * n → size ≤ length old → length (mid_of 23 (size - 23) (put_mid 0 23 old a)) ≡ 42 * n
rest-long old a n size x y first is room =
    let long : length a ≡ 23 = rw first (length-first x y) in
    let one = begun-part [] old old 0 (begun-none old) a 23 long in
    rw one.is (simp (length-take, length-drop, length-append) (omega arith))

-- Where as much is written as there was, nothing is left of it.
pub none_left : (l p d : List ℕ) (k : ℕ) → l ≡ p ++ drop k d → length d ≡ k → l ≡ p
none_left l p d k is size = is ∙ rw (← size, drop-length d) (append-nil p)
