-- What is known of a line that passed its checks: each number is within its limits.
use Rattle.std.specs.Prelude.{ℕ, ◌+◌, ◌/◌, ◌^◌, ◌-◌, ◌≤◌, ◌<◌, ◌≡◌, true, ◌&&◌, List, [], ◌∷◌, ◌⊎◌, length, get_or, leb, ltb, eqb, Ok}
use Rattle.std.proofs.Common.{inl, inr, zero-add, arith, leb-true, eqb-true, ltb→lt}
use Rattle.arith.specs.Laws.Tests.{by-test, and_both}
use Rattle.arith.specs.Laws.Below.{below, each_below}
use Rattle.table_checks.specs.declared.Cause.{Cause}
use Rattle.table_checks.specs.declared.Cause.TheVariants.{FileForm, Notation, Limit}
use Rattle.table_checks.specs.Columns.{field, between, is_identifier, within, columns, node_column, group_column, identifier_column, kind_column, payload_column, period_column, offset_column, claim_column}
use Rattle.table_checks.specs.Refusal.{failed}
use Rattle.table_checks.specs.Checks.{malformed, unterminated, column_check, columns_check, line_check, lines_check}
use Rattle.table_checks.specs.Steps.{Periods}
use Rattle.table_checks.proofs.Laws.First.{first-passed, first-each}

-- the limits of the numbers of line i
pub record Limits (t : List ℕ) (i : ℕ) : Type 0 where
  pub node-min : 1 ≤ field t i node_column
  pub node-max : field t i node_column ≤ 16
  pub group-min : 1 ≤ field t i group_column
  pub group-max : field t i group_column ≤ 16
  pub identified : is_identifier (field t i kind_column) (field t i identifier_column) ≡ true
  pub payload-max : field t i payload_column ≤ 8
  pub period-min : 1 ≤ field t i period_column
  pub period-max : field t i period_column ≤ 1000000
  pub offset-max : field t i offset_column ≤ 1000000
  pub claim-min : 1 ≤ field t i claim_column
  pub claim-max : field t i claim_column ≤ 1000000

-- A check that failed did not pass.
pub not-passed {ℓ} : {A : Type ℓ} {cause : Cause} {place : ℕ} → failed cause place ≡ Ok tt → A
not-passed e = let z : ◌≡◌ {A = ℕ} 0 1 = cc in absurd (omega arith)

-- ---- a line

-- A column that passed is within its limits.
pub column-within : (t : List ℕ) (i j : ℕ) → column_check t i j ≡ Ok tt → within j (field t i (j - 1)) (field t i j) ≡ true
unfolding column_check
column-within t i j e =
    by-test (eqb (field t i j) unterminated) (λ u. not-passed {cause = FileForm} {place = i + 1} (simp u at e))
    (λ u. by-test (eqb (field t i j) malformed) (λ m. not-passed {cause = Notation} {place = i + 1} (simp (u, m) at e))
    (λ m. by-test (within j (field t i (j - 1)) (field t i j)) (λ w. w)
    (λ w. not-passed {cause = Limit} {place = i + 1} (simp (u, m, w) at e))))

pub between-true : (low high v : ℕ) → between low high v ≡ true → (low ≤ v) × (v ≤ high)
unfolding between
between-true low high v e = let b = and_both (leb low v) (leb v high) e in (leb-true low v b.0, leb-true v high b.1)

-- Each number of a line that passed is within its limits.
pub line-limits : (t : List ℕ) (i : ℕ) → line_check t i ≡ Ok tt → Limits t i
unfolding line_check columns_check
line-limits t i e =
    let each : (j : ℕ) → j < columns → within j (field t i (j - 1)) (field t i j) ≡ true
    = λ j l. column-within t i j (rw zero-add at (first-each (column_check t i) columns 0 (first-passed _ _ e).0 j l)) in
    let node = between-true 1 16 _ (each node_column (omega arith)) in
    let group = between-true 1 16 _ (each group_column (omega arith)) in
    let period = between-true 1 1000000 _ (each period_column (omega arith)) in
    let claim = between-true 1 1000000 _ (each claim_column (omega arith)) in
    record {
      node-min = node.0;
      node-max = node.1;
      group-min = group.0;
      group-max = group.1;
      identified = each kind_column (omega arith);
      payload-max = leb-true _ _ (each payload_column (omega arith));
      period-min = period.0;
      period-max = period.1;
      offset-max = leb-true _ _ (each offset_column (omega arith));
      claim-min = claim.0;
      claim-max = claim.1;
    }

-- A kind is one of two, and an identifier is below its limit.
pub identified-cases : (kind identifier : ℕ) → is_identifier kind identifier ≡ true
    → ((kind ≡ 11) × (identifier ≤ 2047)) ⊎ ((kind ≡ 29) × (identifier ≤ 536870911))
unfolding is_identifier
identified-cases kind identifier e =
    by-test (eqb kind 11 && leb identifier 2047)
    (λ f. let b = and_both _ _ f in inl (eqb-true kind 11 b.0, leb-true identifier 2047 b.1))
    (λ f. let b = and_both _ _ (simp f at e) in inr (eqb-true kind 29 b.0, leb-true identifier 536870911 b.1))

pub identified-max : (kind identifier : ℕ) → is_identifier kind identifier ≡ true → (kind ≤ 29) × (identifier ≤ 536870911)
identified-max kind identifier e = elim (identified-cases kind identifier e) [ inl b ↦ omega (arith, b) | inr b ↦ omega (arith, b) ]

-- ---- a column at a time

-- the greatest number that stands in each column
abbrev greatests : List ℕ
greatests = 16 ∷ 16 ∷ 536_870_911 ∷ 29 ∷ 8 ∷ 1_000_000 ∷ 1_000_000 ∷ 1_000_000 ∷ []

unfoldable pub greatest_in : ℕ → ℕ
greatest_in j = get_or greatests j 0

-- No number is greater.
pub field-most : (t : List ℕ) (i : ℕ) → Limits t i → (j : ℕ) → j < columns → field t i j ≤ greatest_in j
unfolding greatest_in
field-most t i m =
    let d = identified-max _ _ m.identified in
    each_below (λ j. field t i j ≤ greatest_in j) columns
    ((((((((tt, m.node-max), m.group-max), d.1), d.0), m.payload-max), m.period-max), m.offset-max), m.claim-max)

-- A number within its limits has 32 bits.
pub field-small : (t : List ℕ) (i : ℕ) → Limits t i → (j : ℕ) → j < columns → field t i j < 2 ^ 32
unfolding greatest_in
field-small t i m j l =
    let h = ltb→lt (greatest_in j) (2 ^ 32) (below (λ j. ltb (greatest_in j) (2 ^ 32)) columns tt j l) in
    omega (arith, field-most t i m j l)

-- ---- a table

-- Where the lines pass, each does.
pub lines-each : (t : List ℕ) → lines_check t ≡ Ok tt → (i : ℕ) → i < length t / columns → Limits t i
unfolding lines_check
lines-each t e i l = line-limits t i (rw zero-add at (first-each (line_check t) (length t / columns) 0 e i l))

pub lines-periods : (t : List ℕ) → lines_check t ≡ Ok tt → Periods t
unfolding Periods
lines-periods t e i l = let m = lines-each t e i l in (m.period-min, m.period-max)
