-- `table_checks::checks::column` meets its contract: the tests stand in the order of the causes.
use Rattle.std.specs.Prelude.{Ok}
use Prim.Native.Nat.{ℕ, ◌+◌, ◌-◌}
use mathlib.Core.Path.{◌≡◌, sym, ap, ◌∙◌}
use mathlib.Core.Bool.{Bool, cond}
use mathlib.Core.List.{List}
use borrow.Author.Tests.{eq-eqb, ne_eqb}
use Rattle.table_checks.specs.declared.Cause.TheVariants.{Limit}
use Rattle.table_checks.specs.Refusal.{failed}
use Rattle.table_checks.specs.Checks.{malformed, unterminated, column_check}
use Rattle.table_checks.specs.Columns.{field, within}
use Rattle.table_checks.proofs.checks.column.Goals as goal

-- A field that bears no mark is judged by the column before it.
judged : (t : List ℕ) (i j p : ℕ) (w b : Bool) → (field t i j ≡ unterminated → ⊥) → (field t i j ≡ malformed → ⊥)
    → p ≡ j - 1 → w ≡ within j (field t i p) (field t i j) → w ≡ b → cond b (Ok tt) (failed Limit (i + 1)) ≡ column_check t i j
unfolding column_check
judged t i j p w b u m e is told =
    let x : b ≡ within j (field t i (j - 1)) (field t i j) = sym told ∙ is ∙ ap (λ (k : ℕ). within j (field t i k) (field t i j)) e in
    simp (ne_eqb _ _ u, ne_eqb _ _ m) (ap (λ (y : Bool). cond y (Ok tt) (failed Limit (i + 1))) x)

pub returns-then-v-eq-UNTERMINATED : goal.returns-then-v-eq-UNTERMINATED
unfolding column_check
returns-then-v-eq-UNTERMINATED c = simp (eq-eqb _ _ c.if-v-eq-UNTERMINATED.true) c.fail.ensures

pub returns-then-v-eq-MALFORMED : goal.returns-then-v-eq-MALFORMED
unfolding column_check
returns-then-v-eq-MALFORMED c = simp (ne_eqb _ _ c.if-v-eq-UNTERMINATED.false, eq-eqb _ _ c.if-v-eq-MALFORMED.true) c.fail-then-v-eq-MALFORMED.ensures

pub returns-then-is_within : goal.returns-then-is_within
returns-then-is_within c =
    judged _ _ _ _ _ _ c.if-v-eq-UNTERMINATED.false c.if-v-eq-MALFORMED.false c.saturating_sub.ensures c.is_within.ensures c.if-is_within.true

pub returns-else-is_within : goal.returns-else-is_within
returns-else-is_within c =
    c.fail-else-is_within.ensures ∙ judged _ _ _ _ _ _ c.if-v-eq-UNTERMINATED.false c.if-v-eq-MALFORMED.false c.saturating_sub.ensures c.is_within.ensures c.if-is_within.false
