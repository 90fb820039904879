-- The answer, as the code finds it.
use Rattle.std.specs.Prelude.{ℕ, ◌+◌, ◌-◌, ◌*◌, ◌/◌, ◌≤◌, ◌<◌, ◌≡◌, refl, Result, Ok}
use Rattle.std.proofs.Math.Path.{sym}
use Rattle.std.proofs.Common.{◌∙◌}
use mathlib.Core.List.{List, []}
use native.Mathlib.Omega.{arith}
use borrow.Author.Tests.{lt-ltb, le-ltb, eq-eqb, ne_eqb}
use borrow.Rule.Slice.PartMut.{put_mid}
use Rattle.std.proofs.Math.ListN.{length}
use Rattle.log_load.specs.declared.Refusal.{Refusal}
use Rattle.arith.specs.Laws.Overwriting.{begun-none, begun-part}
use Rattle.arith.specs.Laws.Lines.{length-lines}
use Rattle.table_checks.specs.Columns.{columns}
use Rattle.table_checks.specs.declared.Cause.TheVariants.{OutputArea}
use Rattle.bus_log.specs.declared.Line.{Line}
use Rattle.bus_log.specs.Log.{last_end}
use Rattle.log_check.specs.declared.Cause.TheVariants.{Table}
use Rattle.log_load.specs.declared.Cause.TheVariants.{Log, Width}
use Rattle.log_load.specs.Busy.{most_busy, first_busiest}
use Rattle.log_load.specs.Sheet.{first_line, lines_from, sheet_of}
use Rattle.log_load.specs.Answer.{is_no_width, refused_at, width_answer, area_after}
use Rattle.log_load.specs.Theory.Sheet.{length-first, row-lines, length-sheet}

module _ (rows : List ℕ) (log : List Line) (w : ℕ) (old : List ℕ) where
  -- An answer, and what it leaves in the area.
  abbrev pub Leaves : Result ℕ Refusal → List ℕ → Type 0
  Leaves a new = (a ≡ width_answer rows log w old) × (new ≡ area_after a (sheet_of rows log w) old)

  refused : (a : Result ℕ Refusal) {cause : _} → a ≡ refused_at cause 0 → refused_at cause 0 ≡ width_answer rows log w old → Leaves a old
  refused a e is = rw e (is, refl)

  -- 20, for a width of 0,
  pub width-none : (a : Result ℕ Refusal) → a ≡ refused_at Width 0 → w ≡ 0 → Leaves a old
  unfolding width_answer is_no_width
  width-none a is e = refused a is (rw (eq-eqb w 0 e))

  -- or one that exceeds the last end,
  pub width-beyond : (a : Result ℕ Refusal) → a ≡ refused_at Width 0 → (w ≡ 0 → ⊥) → last_end log < w → Leaves a old
  unfolding width_answer is_no_width
  width-beyond a is n l = refused a is (rw (ne_eqb w 0 n, lt-ltb (last_end log) w l))

  module _ (some : w ≡ 0 → ⊥) (room : w ≤ last_end log) where
    -- 8,
    pub area-short : (a : Result ℕ Refusal) → a ≡ refused_at (Log (Table OutputArea)) 0 → length old < 23 + 42 * (length rows / columns) → Leaves a old
    unfolding width_answer is_no_width
    area-short a is l =
        refused a is (rw (ne_eqb w 0 some, le-ltb (last_end log) w room, lt-ltb (length old) (length (sheet_of rows log w)) (rw (length-sheet rows log w) l)))

    sheet-done : (size : ℕ) → size ≡ 23 + 42 * (length rows / columns) → size ≤ length old → Ok size ≡ width_answer rows log w old
    unfolding width_answer is_no_width
    sheet-done size e l =
        let long : size ≡ length (sheet_of rows log w) = e ∙ sym (length-sheet rows log w) in
        rw (ne_eqb w 0 some, le-ltb (last_end log) w room, ← long, le-ltb (length old) size l)

    -- or the two parts, one behind the other: they are the sheet.
    pub sheet-written : (n size : ℕ) (a b : List ℕ) (x y : ℕ) → n ≡ length rows / columns → size ≡ 23 + 42 * n → size ≤ length old
        → a ≡ first_line x y → (x ≡ most_busy log w) × (y ≡ first_busiest log w) → b ≡ lines_from rows log n 0
        → Leaves (Ok size) (put_mid 23 (size - 23) (put_mid 0 23 old a) b)
    unfolding sheet_of
    sheet-written n size a b x y rows_are size_is long first-is (x-is, y-is) rest-is =
        let whole = length-sheet rows log w in
        let left : size - 23 ≡ 42 * n = omega arith in
        let total : 23 + 42 * n ≡ length (sheet_of rows log w) = rw rows_are (sym whole) in
        let a-long : length a ≡ 23 = rw first-is (length-first x y) in
        let b-long : length b ≡ 42 * n = rw rest-is (length-lines (row-lines rows log) n 0) in
        let one = begun-part [] old old 0 (begun-none old) a 23 a-long in
        let two = begun-part _ old _ 23 one b (42 * n) b-long in
        (sheet-done size (rw (← rows_are) size_is) long, rw left (two.is ∙ rw (total, first-is, x-is, y-is, rest-is, rows_are)))
