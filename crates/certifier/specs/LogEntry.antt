-- What the entry that checks a log answers, and what it leaves in its area (document 02, request 10; document 01, the end of "Where a call is
-- turned back").
use Rattle.std.specs.Prelude.{ℕ, ◌+◌, ◌*◌, cond, List, ◌++◌, eqb, ℤ, pos, neg_ℤ, length, drop}
use Rattle.table_checks.specs.Refusal.{returned}
use Rattle.frame_table.specs.Table.{Answered, returns_for}
use Rattle.log_check.specs.Returns.{LogReturned}

-- what is returned where the starts are to be written into the area `old`: 8 comes last
unfoldable pub starts_answered : LogReturned → List ℕ → Answered
starts_answered r old = returns_for (returned r.number r.place) r.starts old

-- how many were written, or minus (number × 10000 + place)
unfoldable pub encode_answered : Answered → ℤ
encode_answered a = cond (eqb a.number 0) (pos a.written) (neg_ℤ (pos (a.number * 10000 + a.place)))

-- the area afterwards
unfoldable pub starts_area : LogReturned → List ℕ → List ℕ
starts_area r old = cond (eqb (starts_answered r old).number 0) (r.starts ++ drop (length r.starts) old) old
