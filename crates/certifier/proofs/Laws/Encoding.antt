-- The number of an answer can be taken apart again: verdict, bound and margin of a judgement, number and place of a refusal.
use Rattle.std.specs.Prelude.{ℕ, zero, suc, ◌+◌, ◌-◌, ◌*◌, ◌/◌, ◌%◌, ◌^◌, ◌≤◌, ◌<◌, ◌≡◌, ◌≢◌, not, ◌||◌, List, ltb, eqb, length, ℤ, ◌+ℤ◌, neg_ℤ, Result, Ok, Err}
use Rattle.std.proofs.Math.Path.{refl, ap}
use Rattle.std.proofs.Common.{sym, subst, ◌∙◌, arith, le→leb}
use Rattle.std.proofs.Math.IntN.{pos, +ℤ_assoc, pos-ne-negsuc}
use Rattle.table_checks.specs.declared.Refusal.{Refusal as TableRefusal}
use Rattle.arith.specs.Laws.Tests.{cond_cases}
use Rattle.bus_model.specs.declared.Frame.{Frame}
use Rattle.bus_model.specs.declared.Faults.TheVariants.{Never}
use Rattle.bus_model.specs.declared.Outcome.{Outcome}
use Rattle.bus_model.specs.declared.Outcome.TheVariants.{CertifiedApproximate, CertifiedPrecise, ClaimTooSmall, CertifiedLevel, NoWindow, Undecided}
use Rattle.bus_model.specs.declared.Judgement.{Judgement}
use Rattle.bus_model.specs.Frame.{row}
use Rattle.bus_model.specs.Pattern.{of_group, hyperperiod, pattern_releases}
use Rattle.bus_model.specs.Judgement.{verdict, lacks_window, too_many_scenarios}
use Rattle.table_checks.specs.Columns.{field, within, columns, most_lines, most_numbers, line_length}
use Rattle.table_checks.specs.Frames.{frames_of, unmeasured}
use Rattle.table_checks.specs.Checks.{first, first_of, breaks_limits, lengths_check, file_size_check, rows_size_check, malformed, unterminated, column_check, columns_check, stands_earlier, has_second_group, line_check, lines_check, group_check, groups_check, table_check, rows_check, loaded_check}
use Rattle.table_checks.proofs.Laws.Accepted.{loaded-both, accepted-size}
use Rattle.table_checks.proofs.Laws.Sizes.{file-size, rows-size}
use Rattle.frame_table.specs.Text.{fields_of}
use Rattle.frame_table.specs.Table.{read_check}
use Rattle.frame_table.specs.Laws.Layout.{length_fields}
use Rattle.lengths_file.specs.Lengths.{lengths_of, is_text, text_check, lengths_file_check}
use Rattle.lengths_file.specs.Input.{input_check}
use Rattle.row_judgement.specs.declared.Refusal.{Refusal}
use Rattle.row_judgement.specs.Refusal.{number_of}
use Rattle.row_judgement.specs.Judge.{no_row, judge_checked, judge_row, bound_frame, bound_checked, bound_row}
use Rattle.row_judgement.specs.Laws.Returns.{number-range}
use Rattle.certifier.specs.Encode.{judge_read, judge_file, bound_read, bound_file, encode_refusal, encode_judged, encode_bounded}
use Rattle.certifier.specs.Steps.{Encodable}
use Rattle.certifier.proofs.Laws.Small.{judged-encodable, file-encodable}

-- ---- the parts

pub verdict-max : (outcome : Outcome) → verdict outcome ≤ 12
verdict-max (CertifiedApproximate b) = omega arith
verdict-max (CertifiedPrecise b) = omega arith
verdict-max (ClaimTooSmall b) = omega arith
verdict-max (CertifiedLevel b) = omega arith
verdict-max NoWindow = omega arith
verdict-max (Undecided b) = omega arith

-- ---- a judgement

-- the number z holds the verdict, the bound, and the margin and a million
pub record JudgementParts (j : Judgement) (z : ℤ) : Type 0 where
  pub size : ℕ
  pub is : z ≡ pos size
  pub verdict-is : size / 10 ^ 14 ≡ verdict j.outcome
  pub bound-is : size / 10 ^ 7 % 10 ^ 7 ≡ j.bound
  pub margin-is : pos (size % 10 ^ 7) ≡ pos 1000000 +ℤ j.margin

module _ (j : Judgement) (n : ℕ) (shifted : pos 1000000 +ℤ j.margin ≡ pos n) where
  -- Where the margin and a million are a natural number, so is the whole.
  pub judgement-number : encode_judged (Ok j) ≡ pos (verdict j.outcome * 10 ^ 14 + j.bound * 10 ^ 7 + n)
  unfolding encode_judged
  judgement-number =
      +ℤ_assoc (pos (verdict j.outcome * 10 ^ 14 + j.bound * 10 ^ 7)) (pos 1000000) j.margin
      ∙ ap (λ (z : ℤ). pos (verdict j.outcome * 10 ^ 14 + j.bound * 10 ^ 7) +ℤ z) shifted

  -- Where bound and shifted margin have seven digits, the parts stand apart.
  pub judgement-parts : j.bound < 10 ^ 7 → n < 10 ^ 7 → JudgementParts j (encode_judged (Ok j))
  judgement-parts b l =
      let m : ℕ = verdict j.outcome * 10 ^ 14 + j.bound * 10 ^ 7 + n in
      record {
        size = m;
        is = judgement-number;
        verdict-is = omega arith;
        bound-is = omega arith;
        margin-is = ap pos (omega arith) ∙ sym shifted;
      }

-- ---- a refusal

-- the number z is below 0, and holds the cause's number and the place
pub record RefusalParts (f : Refusal) (z : ℤ) : Type 0 where
  pub size : ℕ
  pub is : z ≡ neg_ℤ (pos size)
  pub some : 0 < size
  pub number_is : size / 10000 ≡ number_of f.cause
  pub place_is : size % 10000 ≡ f.place

-- Where the place has four digits, the parts stand apart.
pub refusal-parts : (f : Refusal) → f.place < 10000 → RefusalParts f (encode_refusal f)
unfolding encode_refusal
refusal-parts f l =
    let r = number-range f.cause in
    record {
      size = number_of f.cause * 10000 + f.place;
      is = refl;
      some = omega arith;
      number_is = omega arith;
      place_is = omega arith;
    }

-- No refusal has the number of a judgement or a bound.
pub refusal-below : (f : Refusal) (m : ℕ) → encode_refusal f ≢ pos m
unfolding encode_refusal
refusal-below f m = below (number_of f.cause * 10000 + f.place) (let r = number-range f.cause in omega arith)
  where
    below : (n : ℕ) → 0 < n → neg_ℤ (pos n) ≢ pos m
    below zero l e = absurd (omega arith)
    below (suc n) l e = pos-ne-negsuc m n (sym e)

pub refusal-differs : (f : Refusal) {j : Judgement} {z : ℤ} → JudgementParts j z → encode_refusal f ≢ z
refusal-differs f p e = refusal-below f p.size (e ∙ p.is)

-- ---- the places of refusals: a line, a group or a row, at most 64

-- where the check fails, its place is small
abbrev CheckPlaced : Result (Unit {0}) TableRefusal → Type 0
CheckPlaced (Ok _) = Unit {0}
CheckPlaced (Err f) = f.place ≤ 64

first-placed : (a b : Result (Unit {0}) TableRefusal) → CheckPlaced a → (a ≡ Ok tt → CheckPlaced b) → CheckPlaced (first a b)
first-placed (Ok _) b p q = q refl
first-placed (Err f) b p q = p

first_of-placed : (check : ℕ → Result (Unit {0}) TableRefusal) (m n : ℕ) → ((i : ℕ) → n ≤ i → i < n + m → CheckPlaced (check i)) → CheckPlaced (first_of check m n)
unfolding first_of
first_of-placed check zero n each = tt
first_of-placed check (suc m) n each =
    first-placed (check n) (first_of check m (n + 1)) (each n (omega arith) (omega arith))
    (λ e. first_of-placed check m (n + 1) (λ i low high. each i (omega arith) (omega arith)))

-- Lines count from 1.
line-placed : (t : List ℕ) (i : ℕ) → i < most_lines → CheckPlaced (line_check t i)
unfolding line_check columns_check column_check
line-placed t i l =
    first-placed (columns_check t i) _
    (first_of-placed (column_check t i) columns 0
    (λ j low high. cond_cases CheckPlaced (eqb (field t i j) unterminated) (λ u. omega arith)
    (λ u. cond_cases CheckPlaced (eqb (field t i j) malformed) (λ m. omega arith)
    (λ m. cond_cases CheckPlaced (within j (field t i (j - 1)) (field t i j)) (λ w. tt) (λ w. omega arith)))))
    (λ e. cond_cases CheckPlaced (stands_earlier t i) (λ s. omega arith)
    (λ s. cond_cases CheckPlaced (has_second_group t i) (λ g. omega arith) (λ g. tt)))

group-placed : (fs : List Frame) (j : ℕ) → j ≤ 16 → CheckPlaced (group_check fs j)
unfolding group_check
group-placed fs j l =
    cond_cases CheckPlaced (ltb 1000000 (hyperperiod (of_group fs j))) (λ h. omega arith)
    (λ h. cond_cases CheckPlaced (ltb 256 (pattern_releases (of_group fs j))) (λ r. omega arith) (λ r. tt))

table-placed : (t : List ℕ) → length t / columns ≤ most_lines → CheckPlaced (table_check t)
unfolding table_check lines_check groups_check
table-placed t few =
    first-placed (lines_check t) (groups_check (unmeasured t))
    (first_of-placed (line_check t) (length t / columns) 0 (λ i low high. line-placed t i (omega arith)))
    (λ e. first_of-placed (group_check (unmeasured t)) 16 1 (λ j low high. group-placed (unmeasured t) j (omega arith)))

lengths-placed : (ls : List (List ℕ)) → CheckPlaced (lengths_check ls)
unfolding lengths_check
lengths-placed ls =
    cond_cases CheckPlaced (breaks_limits ls 0) (λ b. omega arith)
    (λ a. cond_cases CheckPlaced (breaks_limits ls 1) (λ b. omega arith) (λ b. tt))

rows-placed : (rows : List ℕ) → CheckPlaced (rows_check rows)
unfolding rows_check rows_size_check
rows-placed rows =
    first-placed (rows_size_check (length rows)) (table_check rows)
    (cond_cases CheckPlaced (eqb (length rows) 0 || (not (eqb (length rows % columns) 0) || ltb most_numbers (length rows))) (λ s. omega arith) (λ s. tt))
    (λ e. let few = (rows-size (length rows) e).most in table-placed rows (omega arith))

loaded-placed : (ls : List (List ℕ)) (rows : List ℕ) → CheckPlaced (loaded_check ls rows)
unfolding loaded_check
loaded-placed ls rows = first-placed (lengths_check ls) (rows_check rows) (lengths-placed ls) (λ e. rows-placed rows)

lengths-file-placed : (lengths : List ℕ) → CheckPlaced (lengths_file_check lengths)
unfolding lengths_file_check text_check
lengths-file-placed lengths =
    first-placed (text_check lengths) (lengths_check (lengths_of lengths))
    (cond_cases CheckPlaced (is_text lengths) (λ t. tt) (λ t. omega arith)) (λ e. lengths-placed (lengths_of lengths))

file-placed : (file : List ℕ) → CheckPlaced (read_check file)
unfolding read_check file_size_check fields_of
file-placed file =
    first-placed (file_size_check (length file)) (table_check (fields_of file))
    (cond_cases CheckPlaced (eqb (length file) 0 || not (eqb (length file % line_length) 0)) (λ s. omega arith)
    (λ s. cond_cases CheckPlaced (ltb most_lines (length file / line_length)) (λ m. omega arith) (λ m. tt)))
    (λ e.
    let few = (file-size (length file) e).most in
    table-placed (fields_of file) (omega (arith, length_fields file (columns * (length file / line_length)) 0)))

input-placed : (lengths file : List ℕ) → CheckPlaced (input_check lengths file)
unfolding input_check
input-placed lengths file = first-placed (lengths_file_check lengths) (read_check file) (lengths-file-placed lengths) (λ e. file-placed file)

-- where there is no judgement, and where there is no bound, the place is small
abbrev JudgedPlaced : Result Judgement Refusal → Type 0
JudgedPlaced (Ok j) = Unit {0}
JudgedPlaced (Err f) = f.place ≤ 64

abbrev BoundedPlaced : Result ℕ Refusal → Type 0
BoundedPlaced (Ok b) = Unit {0}
BoundedPlaced (Err f) = f.place ≤ 64

-- ---- the parts of an answer's number

-- the number z holds the judgement's parts or the refusal's
abbrev pub JudgedParts : Result Judgement Refusal → ℤ → Type 0
JudgedParts (Ok j) z = JudgementParts j z
JudgedParts (Err f) z = RefusalParts f z

-- the number z is the bound, or holds the refusal's parts
abbrev pub BoundedParts : Result ℕ Refusal → ℤ → Type 0
BoundedParts (Ok b) z = z ≡ pos b
BoundedParts (Err f) z = RefusalParts f z

judged-parts : (a : Result Judgement Refusal) → Encodable a → JudgedPlaced a → JudgedParts a (encode_judged a)
unfolding encode_judged
judged-parts (Ok j) (b, (n, shifted, l)) p = judgement-parts j n shifted (omega arith) (omega arith)
judged-parts (Err f) e p = refusal-parts f (omega arith)

bounded-parts : (a : Result ℕ Refusal) → BoundedPlaced a → BoundedParts a (encode_bounded a)
unfolding encode_bounded
bounded-parts (Ok b) p = refl
bounded-parts (Err f) p = refusal-parts f (omega arith)

-- ---- the answers for rows in memory

module _ (ls : List (List ℕ)) (rows : List ℕ) (r : ℕ) where
  row-judged : JudgedPlaced (judge_row ls rows r)
  unfolding judge_row judge_checked
  row-judged = go (loaded_check ls rows) (loaded-placed ls rows)
    where
      go : (c : Result (Unit {0}) TableRefusal) → CheckPlaced c → JudgedPlaced (judge_checked c ls rows r)
      go (Err f) p = p
      go (Ok tt) p = cond_cases JudgedPlaced (no_row rows r) (λ t. omega arith) (λ t. tt)

  row-bounded : BoundedPlaced (bound_row ls rows r)
  unfolding bound_row bound_checked bound_frame
  row-bounded = go (loaded_check ls rows) refl (loaded-placed ls rows)
    where
      go : (c : Result (Unit {0}) TableRefusal) → loaded_check ls rows ≡ c → CheckPlaced c → BoundedPlaced (bound_checked c ls rows r)
      go (Err f) e p = p
      go (Ok tt) e p =
          cond_cases BoundedPlaced (no_row rows r) (λ t. omega arith)
          (λ has.
          let few = (accepted-size rows (loaded-both ls rows e).1).most in
          let some : ¬ (length rows / columns ≤ r) = λ le. has (le→leb _ _ le) in
          cond_cases BoundedPlaced (lacks_window Never (frames_of ls rows) (row (frames_of ls rows) r)) (λ w. omega arith)
          (λ w. cond_cases BoundedPlaced (too_many_scenarios (frames_of ls rows) (row (frames_of ls rows) r)) (λ m. omega arith) (λ m. tt)))

  -- The place of a refusal is small.
  pub row-place-small : (f : Refusal) → judge_row ls rows r ≡ Err f → f.place ≤ 64
  row-place-small f e = subst JudgedPlaced e row-judged

  pub row-bound-place-small : (f : Refusal) → bound_row ls rows r ≡ Err f → f.place ≤ 64
  row-bound-place-small f e = subst BoundedPlaced e row-bounded

  -- Whatever the rows and the row, the number tells the answer's parts.
  pub row-parts : JudgedParts (judge_row ls rows r) (encode_judged (judge_row ls rows r))
  row-parts = judged-parts (judge_row ls rows r) (judged-encodable ls rows r) row-judged

  pub row-bound-parts : BoundedParts (bound_row ls rows r) (encode_bounded (bound_row ls rows r))
  row-bound-parts = bounded-parts (bound_row ls rows r) row-bounded

-- ---- the answers for files

module _ (lengths file : List ℕ) (r : ℕ) where
  file-judged : JudgedPlaced (judge_file lengths file r)
  unfolding judge_file judge_read
  file-judged = go (input_check lengths file) (input-placed lengths file)
    where
      go : (c : Result (Unit {0}) TableRefusal) → CheckPlaced c → JudgedPlaced (judge_read c (lengths_of lengths) file r)
      go (Err f) p = p
      go (Ok tt) p = row-judged (lengths_of lengths) (fields_of file) r

  file-bounded : BoundedPlaced (bound_file lengths file r)
  unfolding bound_file bound_read
  file-bounded = go (input_check lengths file) (input-placed lengths file)
    where
      go : (c : Result (Unit {0}) TableRefusal) → CheckPlaced c → BoundedPlaced (bound_read c (lengths_of lengths) file r)
      go (Err f) p = p
      go (Ok tt) p = row-bounded (lengths_of lengths) (fields_of file) r

  -- The place of a refusal is small.
  pub place-small : (f : Refusal) → judge_file lengths file r ≡ Err f → f.place ≤ 64
  place-small f e = subst JudgedPlaced e file-judged

  pub bound-place-small : (f : Refusal) → bound_file lengths file r ≡ Err f → f.place ≤ 64
  bound-place-small f e = subst BoundedPlaced e file-bounded

  -- Whatever the files and the row, the number tells the answer's parts.
  pub judge-parts : JudgedParts (judge_file lengths file r) (encode_judged (judge_file lengths file r))
  judge-parts = judged-parts (judge_file lengths file r) (file-encodable lengths file r) file-judged

  pub bound-parts : BoundedParts (bound_file lengths file r) (encode_bounded (bound_file lengths file r))
  bound-parts = bounded-parts (bound_file lengths file r) file-bounded
