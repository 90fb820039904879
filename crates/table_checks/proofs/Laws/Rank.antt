-- Which of two frames goes first (document 02, 5, "Rank", which is ISO 11898-1's): the priority is the rank.
use Rattle.std.specs.Prelude.{ℕ, ◌/◌, ◌^◌, ◌≤◌, ◌<◌, ◌≡◌, true, ◌↔◌, ◌≢◌}
use Rattle.std.proofs.Common.{sym, ◌∙◌, inl, inr, arith}
use Rattle.table_checks.specs.Columns.{is_identifier}
use Rattle.table_checks.specs.Frames.{priority_of}
use Rattle.table_checks.proofs.Laws.Limits.{identified-cases}

-- "the top 11 of the 29 bits"
abbrev pub top_bits : ℕ → ℕ
top_bits identifier = identifier / 2 ^ 18

-- "compares the top 11 of the 29 bits with the short identifier; the smaller goes first": a long frame goes ahead of a short one
-- just where its top bits are smaller, a short one ahead of a long one just where they are not.
pub long-first : (long short : ℕ) → (priority_of 29 long < priority_of 11 short) ↔ (top_bits long < short)
unfolding priority_of
long-first long short = (λ less. omega arith, λ less. omega arith)

pub short-first : (short long : ℕ) → (priority_of 11 short < priority_of 29 long) ↔ (short ≤ top_bits long)
unfolding priority_of
short-first short long = (λ less. omega arith, λ le. omega arith)

-- "on a tie the short frame does"
pub on-a-tie : (long : ℕ) → priority_of 11 (top_bits long) < priority_of 29 long
on-a-tie long = (short-first (top_bits long) long).1 (omega arith)

-- Among short frames, and "among long frames", the smaller identifier goes first.
pub shorts : (a b : ℕ) → (priority_of 11 a < priority_of 11 b) ↔ (a < b)
unfolding priority_of
shorts a b = (λ less. omega arith, λ less. omega arith)

pub longs : (a b : ℕ) → (priority_of 29 a < priority_of 29 b) ↔ (a < b)
unfolding priority_of
longs a b = (λ less. omega arith, λ less. omega arith)

-- ---- no two frames have one priority

numbers_apart : (priority : ℕ → ℕ) → ((a b : ℕ) → (priority a < priority b) ↔ (a < b)) → (a b : ℕ) → priority a ≡ priority b → a ≡ b
numbers_apart priority rises a b e =
    let not-less : ¬ (a < b) = λ less. omega (arith, (rises a b).1 less) in
    let not_more : ¬ (b < a) = λ more. omega (arith, (rises b a).1 more) in
    omega arith

kinds-apart : (short long : ℕ) → priority_of 11 short ≢ priority_of 29 long
kinds-apart short long e =
    let not-ahead : ¬ (short ≤ top_bits long) = λ le. omega (arith, (short-first short long).1 le) in
    let not_behind : ¬ (top_bits long < short) = λ less. omega (arith, (long-first long short).1 less) in
    omega arith

-- Kinds and identifiers within their limits that give one priority are the same.
pub priority-same : (kind identifier kind' identifier' : ℕ) → is_identifier kind identifier ≡ true → is_identifier kind' identifier' ≡ true
    → priority_of kind identifier ≡ priority_of kind' identifier' → (kind ≡ kind') × (identifier ≡ identifier')
priority-same k i k' i' v v' e =
    elim (identified-cases k i v) [
      | inl a ↦ elim (identified-cases k' i' v') [
        | inl b ↦ (a.0 ∙ sym b.0, numbers_apart (priority_of 11) shorts i i' (rw (a.0, b.0) at e))
        | inr b ↦ absurd (kinds-apart i i' (rw (a.0, b.0) at e))
      ]
      | inr a ↦ elim (identified-cases k' i' v') [
        | inl b ↦ absurd (kinds-apart i' i (sym (rw (a.0, b.0) at e)))
        | inr b ↦ (a.0 ∙ sym b.0, numbers_apart (priority_of 29) longs i i' (rw (a.0, b.0) at e))
      ]
    ]
