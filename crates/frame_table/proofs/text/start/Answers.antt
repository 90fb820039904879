-- `frame_table::text::start` meets its contract: the constant table has the sums of the widths.
use Prim.Native.Nat.{ℕ, ◌+◌, ◌≤◌}
use mathlib.Core.Path.{◌≡◌}
use mathlib.Core.List.{List, [], ◌∷◌}
use native.Mathlib.Omega.{arith}
use lib.ListN.{get_or}
use lib.Dec.{eqb, eqb→eq}
use Rattle.arith.specs.Laws.Below.{below}
use Rattle.table_checks.specs.Columns.{start_of, columns}
use Rattle.frame_table.proofs.text.start.Goals as goal

-- the constant table
abbrev starts : List ℕ
starts = 0 ∷ 3 ∷ 6 ∷ 16 ∷ 19 ∷ 21 ∷ 29 ∷ 37 ∷ 45 ∷ []

start-at : (j : ℕ) → j ≤ columns → get_or starts j 0 ≡ start_of j
unfolding start_of
start-at j l = eqb→eq _ _ (below (λ j. eqb (get_or starts j 0) (start_of j)) (columns + 1) tt j (omega arith))

pub returns : goal.returns
returns c = start-at c.args.j c.requires
