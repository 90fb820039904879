-- A table without groups is listed as it was, once it is widened by a group equal to its node.
use Rattle.std.specs.Prelude.{ℕ, zero, suc, ◌+◌, ◌/◌, ◌%◌, ◌≡◌, refl, List, [], ◌++◌, length}
use Rattle.std.proofs.Common.{ap₂, arith}
use Rattle.bus_model.specs.Frame.{row}
use Rattle.bus_model.specs.Judgement.{judge}
use Rattle.bus_model.specs.declared.Faults.TheVariants.{Never}
use Rattle.table_checks.specs.Columns.{identifier_column, claim_column}
use Rattle.table_checks.proofs.Laws.Ungrouped.{plain_columns, plain_field, plain_frames, widened, widened-field, rows-widened, widened-frames}
use Rattle.row_judgement.specs.Laws.Ungrouped.{plain_claim}
use Rattle.certifier.specs.Listing.{listing_line, line_of, lines_from, listing_of}

-- ---- a table without groups

unfoldable pub plain_line_of : List (List ℕ) → List ℕ → ℕ → List ℕ
plain_line_of ls t i = listing_line (plain_field t i 1) (judge Never (plain_frames ls t) (row (plain_frames ls t) i) (plain_claim t i))

abbrev pub plain_lines_from : List (List ℕ) → List ℕ → ℕ → ℕ → List ℕ
plain_lines_from ls t zero i = []
plain_lines_from ls t (suc n) i = plain_line_of ls t i ++ plain_lines_from ls t n (i + 1)

unfoldable pub plain_listing : List (List ℕ) → List ℕ → List ℕ
plain_listing ls t = plain_lines_from ls t (length t / plain_columns) 0

-- ---- the same

module _ (ls : List (List ℕ)) (t : List ℕ) (whole : length t % plain_columns ≡ 0) where
  line-as-before : (i : ℕ) → line_of Never ls (widened t) i ≡ plain_line_of ls t i
  unfolding line_of plain_line_of
  line-as-before i =
      rw (widened-frames t whole ls, widened-field t whole i identifier_column (omega arith), widened-field t whole i claim_column (omega arith))

  lines-as-before : (n i : ℕ) → lines_from Never ls (widened t) n i ≡ plain_lines_from ls t n i
  lines-as-before zero i = refl
  lines-as-before (suc n) i = ap₂ (λ (x y : List ℕ). x ++ y) (line-as-before i) (lines-as-before n (i + 1))

  pub listed-as-before : listing_of Never ls (widened t) ≡ plain_listing ls t
  unfolding listing_of plain_listing
  listed-as-before = rw (rows-widened t whole) (lines-as-before (length t / plain_columns) 0)
