-- The line of a refusal, written into an area of its size.
use Rattle.std.specs.Prelude.{ℕ, ◌≡◌, ◌≤◌, List, length, Result, Ok}
use Rattle.std.proofs.Common.{◌∙◌, arith, append-nil}
use Rattle.std.proofs.Math.Path.{refl}
use Rattle.std.proofs.Math.Seq.{drop-length}
use borrow.Author.Tests.{le-ltb}
use Rattle.table_checks.specs.declared.Refusal.{Refusal as TableRefusal}
use Rattle.table_checks.specs.Refusal.{number_of as table_number_of}
use Rattle.frame_table.specs.Table.{answer_for, area_after}
use Rattle.row_judgement.specs.declared.Refusal.{Refusal}
use Rattle.row_judgement.specs.Refusal.{number_of, of_table}
use Rattle.certifier.specs.Listing.{refusal_line}
use Rattle.certifier.proofs.Laws.Listing.{length-refusal}

pub line-fills : {r : TableRefusal} {f : Refusal} {a : Result ℕ TableRefusal} (old : List ℕ) {new : List ℕ} → f ≡ of_table r → length old ≡ 10
    → a ≡ answer_for (Ok tt) (refusal_line (number_of f.cause) f.place) old → new ≡ area_after a (refusal_line (number_of f.cause) f.place) old
    → new ≡ refusal_line (table_number_of r.cause) r.place
unfolding number_of
line-fills {r} {f} {a} old {new} same size is after =
    let line = refusal_line (table_number_of r.cause) r.place in
    let room : length line ≤ length old = omega (arith, length-refusal (table_number_of r.cause) r.place) in
    let whole : length line ≡ length old = omega (arith, length-refusal (table_number_of r.cause) r.place) in
    let full : a ≡ Ok (length line) = rw same at is ∙ rw (le-ltb (length old) (length line) room) refl in
    rw (same, full) at after ∙ rw (whole, drop-length old, append-nil line) refl
