-- What one step of the code hands to the next.
use Rattle.std.specs.Prelude.{ℕ, cond, List, eqb, Result, Ok}
use Rattle.table_checks.specs.declared.Refusal.{Refusal}
use Rattle.frame_table.specs.Table.{Answered, answer_for, area_after}
use Rattle.certifier.specs.Listing.{refusal_line}

-- the answer where the log stands in the area already, or the line of its refusal is to be written there
unfoldable pub answer_after : Answered → List ℕ → Result ℕ Refusal
answer_after r old = cond (eqb r.number 0) (Ok r.written) (answer_for (Ok tt) (refusal_line r.number r.place) old)

-- the area afterwards
unfoldable pub area_printed : Answered → List ℕ → List ℕ
area_printed r old =
    let line = refusal_line r.number r.place in
    cond (eqb r.number 0) old (area_after (answer_for (Ok tt) line old) line old)
