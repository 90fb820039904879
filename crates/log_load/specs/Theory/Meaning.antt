-- A sheet is written of an accepted log alone, and says what it is to say.
use Rattle.std.specs.Prelude.{ℕ, ◌+◌, ◌*◌, ◌/◌, ◌≤◌, ◌≡◌, Bool, true, false, List, eqb, ltb, length, Result, Ok, Err}
use Rattle.std.proofs.Common.{ap, ◌∙◌, arith, ltb-false}
use Rattle.std.proofs.lemmas.Bool.{eqb-false}
use Rattle.table_checks.specs.declared.Refusal.{Refusal as TableRefusal}
use Rattle.arith.specs.Laws.Tests.{by-test}
use Rattle.table_checks.specs.Columns.{columns}
use Rattle.table_checks.specs.Frames.{frames_of}
use Rattle.table_checks.specs.Checks.{Accepted}
use Rattle.table_checks.proofs.Laws.First.{first-passed}
use Rattle.table_checks.proofs.Laws.Accepted.{accepted-size}
use Rattle.frame_table.specs.Text.{fields_of}
use Rattle.frame_table.specs.Table.{read_check}
use Rattle.frame_table.specs.Laws.RoundTrip.{text-read}
use Rattle.lengths_file.specs.Lengths.{lengths_file_check}
use Rattle.lengths_file.specs.Input.{input_check}
use Rattle.bus_log.specs.declared.Line.{Line}
use Rattle.bus_log.specs.Log.{last_end, AcceptedLog, start_in}
use Rattle.log_check.specs.declared.Refusal.{Refusal as LogRefusal}
use Rattle.log_check.specs.Check.{lines_of}
use Rattle.log_check.specs.Verdict.{Means}
use Rattle.log_load.specs.declared.Refusal.{Refusal}
use Rattle.log_load.specs.Refusal.{of_log}
use Rattle.log_load.specs.Sheet.{sheet_of}
use Rattle.log_load.specs.Answer.{is_no_width, width_answer, outcome_answer}
use Rattle.log_load.specs.Meaning.{Says}
use Rattle.log_load.specs.Steps.{Readable, Ordered}
use Rattle.log_load.specs.Theory.Accepted.{accepted-ordered, accepted-busy, accepted-queued}
use Rattle.log_load.specs.Theory.Found.{first-busiest}
use Rattle.log_load.specs.Theory.Sheet.{length-sheet}
use Rattle.log_load.specs.Theory.Fits.{first_fits, seen-fits, identifier-fits}

-- ---- an accepted log

-- Its table is accepted, it is in the notation, and its lines come one after the other.
pub record Ready (ls : List (List ℕ)) (rows text : List ℕ) : Type 0 where
  pub table : Accepted rows
  pub holds : Readable text
  pub accepted : AcceptedLog (frames_of ls rows) rows (lines_of text)
  pub ordered : Ordered 0 (lines_of text)

pub check-passed : (check : Result (Unit {0}) TableRefusal) (ls : List (List ℕ)) (rows text starts : List ℕ) → Means check ls rows text (Ok starts) → check ≡ Ok tt
unfolding Means
check-passed check ls rows text starts means = means.0

-- A table as bytes was read.
pub table-read : (lengths table : List ℕ) → input_check lengths table ≡ Ok tt → (read_check table ≡ Ok tt) × Accepted (fields_of table)
unfolding input_check
table-read lengths table e = let (a, b) = first-passed (lengths_file_check lengths) (read_check table) e in (b, (text-read table b).0)

pub ready : (check : Result (Unit {0}) TableRefusal) (ls : List (List ℕ)) (rows text starts : List ℕ) → Means check ls rows text (Ok starts)
    → (check ≡ Ok tt → Accepted rows) → Ready ls rows text
unfolding Means AcceptedLog
ready check ls rows text starts means table =
    let (passed, holds, shown) = means in
    let accepted : AcceptedLog (frames_of ls rows) rows (lines_of text) = (start_in starts, shown.serve) in
    record {
      table = table passed;
      holds = holds;
      accepted = accepted;
      ordered = accepted-ordered (frames_of ls rows) rows (lines_of text) accepted;
    }

-- ---- an answer

is_done : Result ℕ Refusal → Bool
is_done (Ok n) = true
is_done (Err f) = false

pub refused-done : (f : Refusal) (n : ℕ) {A : Type 0} → Err f ≡ Ok n → A
unfolding is_done
refused-done f n e = let z : false ≡ true = ap is_done e in let y : ◌≡◌ {A = ℕ} 0 1 = cc in absurd (omega arith)

width_some : (w last : ℕ) → is_no_width w last ≡ false → (1 ≤ w) × (w ≤ last)
unfolding is_no_width
width_some w last f =
    by-test (eqb w 0)
    (λ t. let z : true ≡ false = rw t at f in let y : ◌≡◌ {A = ℕ} 0 1 = cc in absurd (omega arith))
    (λ g. let some = eqb-false w 0 g in (omega arith, ltb-false last w (rw g at f)))

width-done : (rows : List ℕ) (log : List Line) (w : ℕ) (old : List ℕ) (n : ℕ) → width_answer rows log w old ≡ Ok n
    → (1 ≤ w) × (w ≤ last_end log) × (n ≡ length (sheet_of rows log w)) × (length (sheet_of rows log w) ≤ length old)
unfolding width_answer
width-done rows log w old n e =
    by-test (is_no_width w (last_end log)) (λ t. refused-done _ n (rw t at e)) (λ f.
    by-test (ltb (length old) (length (sheet_of rows log w))) (λ t. refused-done _ n (rw (f, t) at e)) (λ g.
    let (some, room) = width_some w (last_end log) f in
    let same : Ok (length (sheet_of rows log w)) ≡ Ok n = rw (f, g) at e in
    (some, room, cc, ltb-false (length old) (length (sheet_of rows log w)) g)))

-- Where a sheet is written, it has room.
pub answer-room : (outcome : Result (List ℕ) LogRefusal) (rows : List ℕ) (log : List Line) (w : ℕ) (old : List ℕ) (n : ℕ) → outcome_answer outcome rows log w old ≡ Ok n
    → (n ≡ length (sheet_of rows log w)) × (length (sheet_of rows log w) ≤ length old)
unfolding outcome_answer
answer-room (Ok starts) rows log w old n e = let (some, room, same, fits) = width-done rows log w old n e in (same, fits)
answer-room (Err f) rows log w old n e = refused-done (of_log f) n e

-- What it says.
pub sheet-says : (ls : List (List ℕ)) (rows text : List ℕ) (w : ℕ) (old : List ℕ) (n : ℕ) → Ready ls rows text
    → width_answer rows (lines_of text) w old ≡ Ok n → Says ls rows text w n
sheet-says ls rows text w old n ok e =
    let (some, room, same, fits) = width-done rows (lines_of text) w old n e in
    let size : n ≡ 23 + 42 * (length rows / columns) = same ∙ length-sheet rows (lines_of text) w in
    let (busiest, counted) = first-busiest (lines_of text) w room in
    record {
      size = size;
      most = omega (arith, (accepted-size rows ok.table).most);
      holds = ok.holds;
      accepted = ok.accepted;
      some = some;
      busiest = busiest;
      counted = counted;
      whole = accepted-busy (frames_of ls rows) rows (lines_of text) ok.accepted;
      responses = accepted-queued (frames_of ls rows) rows (lines_of text) ok.accepted;
      first-line = first_fits text ok.holds w room;
      identifiers = identifier-fits rows ok.table;
      seen = seen-fits text ok.holds rows;
    }
