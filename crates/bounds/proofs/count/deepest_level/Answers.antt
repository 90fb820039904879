use Prim.Native.Nat.{ℕ, suc, ◌*◌, min}
use mathlib.Core.Path.{◌≡◌, ap, ◌∙◌}
use native.Mathlib.Omega.{arith}
use native.Mathlib.Numerals.{add-one}
use lib.ListN.{length}
use Rattle.bus_model.specs.Valid.{ValidFrame}
use Rattle.bus_model.specs.Bounds.{alignments, or_empty}
use Rattle.bus_model.specs.Theory.LevelSearch.{group_at}
use Rattle.bus_model.proofs.Theory.LevelSearch.{level-start, level-next, level-over, level_all}
use Rattle.workload.specs.Prepared.{table_of}
use Rattle.workload.proofs.Laws.Fine.{of-fine}
use Rattle.bounds.proofs.count.deepest_level.Goals as goal
use Rattle.bounds.proofs.count.deepest_level.Goals.{After-cut_product-product-in-loop-level, Start}

-- k is a frame that the definitions ask for
valid : (s : Start) → ValidFrame s.args.k
valid s = of-fine s.requires.fine

pub alignment_count-requires : goal.alignment_count-requires
alignment_count-requires c = record { prepared = c.requires.prepared; le_group = (c.requires.fine.group-low, c.requires.fine.group-high) }

pub loop-level-init : goal.loop-level-init
loop-level-init c = level-start _ (valid (goal.at.loop-level-init c).Start) (c.cut_product-product.ensures ∙ ap (min 65537) (omega (arith, c.alignment_count.ensures)))

pub alignment_count-requires-in-loop-level : goal.alignment_count-requires-in-loop-level
alignment_count-requires-in-loop-level c = record { prepared = c.requires.prepared; le_group = c.group_at-group.ensures.listed }

-- the product with the next group's alignments
factor : (c : After-cut_product-product-in-loop-level) → let a = c.args in
    c.cut_product-product-in-loop-level.result ≡ min 65537 (c.loop-level.product * length (or_empty (alignments (table_of a.rows.now a.prepared.now) a.k (group_at a.k (suc c.loop-level.level)))))
factor c =
    let a = c.args in
    c.cut_product-product-in-loop-level.ensures
    ∙ ap (λ (n : ℕ). min 65537 (c.loop-level.product * n)) (c.alignment_count-in-loop-level.ensures
    ∙ ap (λ (j : ℕ). length (or_empty (alignments (table_of a.rows.now a.prepared.now) a.k j))) (c.group_at-group.ensures.value ∙ ap (group_at a.k) (add-one c.loop-level.level)))

pub returns-then-product-gt-SCENARIO_LIMIT : goal.returns-then-product-gt-SCENARIO_LIMIT
returns-then-product-gt-SCENARIO_LIMIT c = level-over _ (valid (goal.at.returns-then-product-gt-SCENARIO_LIMIT c).Start) c.loop-level.invariant c.loop-level-test.true (factor (goal.at.returns-then-product-gt-SCENARIO_LIMIT c).After-cut_product-product-in-loop-level) c.if-product-gt-SCENARIO_LIMIT.true

pub loop-level-preserved : goal.loop-level-preserved
loop-level-preserved c = level-next _ (valid (goal.at.loop-level-preserved c).Start) c.loop-level.invariant c.loop-level-test.true (factor (goal.at.loop-level-preserved c).After-cut_product-product-in-loop-level) c.if-product-gt-SCENARIO_LIMIT.false

pub returns : goal.returns
returns c =
    let last : 15 ≡ c.loop-level.level = omega (arith, c.loop-level-test.false) in
    last ∙ level_all _ (valid (goal.at.returns c).Start) c.loop-level.invariant c.loop-level-test.false
