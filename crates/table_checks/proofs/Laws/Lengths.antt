-- Document 01's lengths follow their rule, and what the rule says for any g; what is known of lengths that passed their check.
use Prim.Native.Nat.{ℕ, zero, suc, ◌+◌, ◌-◌, ◌*◌, ◌≤◌, ◌<◌}
use Rattle.std.specs.Prelude.{◌≡◌, refl, Bool, true, cond, List, leb, eqb, get_or}
use Rattle.std.proofs.Common.{subst, lt-ltb, le-ltb, leb-true, eqb→eq}
use Rattle.std.proofs.Math.Bool.{false}
use native.Mathlib.Omega.{arith}
use Rattle.std.proofs.Math.Dec.{T}
use Rattle.arith.specs.Lists.{exists, range}
use Rattle.arith.specs.Laws.Members.{exists-mem, mem-range}
use Rattle.arith.specs.Laws.Below.{all_below, below}
use Rattle.arith.specs.Laws.Tests.{by-test, and_both}
use Rattle.table_checks.specs.declared.Cause.TheVariants.{Length}
use Rattle.table_checks.specs.Columns.{between, is_length}
use Rattle.table_checks.specs.Frames.{standard_lengths, length_at, kind_place, largest_length, length_rule, stuffable}
use Rattle.table_checks.specs.Checks.{is_outside, breaks_limits, lengths_check, Loadable}
use Rattle.table_checks.proofs.Laws.Limits.{not-passed, between-true}

-- ---- document 01's

-- whether they have the rule's value at a kind's place and a payload
follows : ℕ → ℕ → Bool
follows k s = eqb (length_at standard_lengths k s) (length_rule (get_or stuffable k 0) s)

-- They all follow the rule.
pub standard-follow : (k s : ℕ) → k < 2 → s < 9 → length_at standard_lengths k s ≡ length_rule (get_or stuffable k 0) s
unfolding follows length_rule
standard-follow k s hk hs = eqb→eq _ _ (below (follows k) 9 (below (λ j. all_below (follows j) 9) 2 tt k hk) s hs)

-- They pass the check.
pub standard-loadable : Loadable standard_lengths
unfolding lengths_check breaks_limits is_outside is_length between exists range
standard-loadable = refl

module _ (g : ℕ) where
  -- A payload byte more takes ten ticks more.
  pub rule-grows : (s : ℕ) → 1 ≤ g → length_rule g (s + 1) ≡ length_rule g s + 10
  unfolding length_rule
  rule-grows s some = omega arith

  -- A length is at least 13, and at most a quarter of its stuffable bits more than they are and 13.
  pub rule-least : (s : ℕ) → 13 ≤ length_rule g s
  unfolding length_rule
  rule-least s = omega arith

  pub rule-most : (s : ℕ) → 4 * length_rule g s ≤ 5 * (g + 8 * s) + 52
  unfolding length_rule
  rule-most s = omega arith

-- ---- a frame's

module _ (ls : List (List ℕ)) (kind payload : ℕ) where
  -- It stands among the lengths, where the payload is one that a frame can have,
  pub length-is : payload ≤ 8 → largest_length ls kind payload ≡ length_at ls (kind_place kind) payload
  unfolding largest_length
  length-is few = rw (le-ltb 8 payload few)

  -- and is 0 where it is not.
  pub too_long : 8 < payload → largest_length ls kind payload ≡ 0
  unfolding largest_length
  too_long more = rw (lt-ltb 8 payload more)

-- ---- those that passed

module _ (ls : List (List ℕ)) (loadable : Loadable ls) where
  line-within : (k : ℕ) → k < 2 → breaks_limits ls k ≡ false
  unfolding lengths_check
  line-within k h =
      by-test (breaks_limits ls 0) (λ a. not-passed {cause = Length} {place = 1} (simp a at loadable))
      (λ a. by-test (breaks_limits ls 1) (λ b. not-passed {cause = Length} {place = 2} (simp (a, b) at loadable)) (λ b. go k h a b))
    where
      go : (k : ℕ) → k < 2 → breaks_limits ls 0 ≡ false → breaks_limits ls 1 ≡ false → breaks_limits ls k ≡ false
      go zero h a b = a
      go (suc zero) h a b = b
      go (suc (suc k)) h a b = absurd (omega arith)

  length-within : (k s : ℕ) → k < 2 → s < 9 → (between 47 400 (length_at ls k s) ≡ true) × (leb (length_at ls k (s - 1)) (length_at ls k s) ≡ true)
  unfolding breaks_limits is_outside is_length
  length-within k s hk hs =
      by-test (is_length (length_at ls k (s - 1)) (length_at ls k s)) (and_both _ _)
      (λ out. absurd (subst T (line-within k hk) (exists-mem (is_outside ls k) (mem-range 0 9 s (omega arith) (omega arith)) (rw out tt))))

  -- Each is within its limits,
  pub loaded-limits : (k s : ℕ) → k < 2 → s < 9 → (47 ≤ length_at ls k s) × (length_at ls k s ≤ 400)
  loaded-limits k s hk hs = between-true 47 400 (length_at ls k s) (length-within k s hk hs).0

  -- and no smaller than the one before it.
  pub loaded-rises : (k s : ℕ) → k < 2 → s < 9 → length_at ls k (s - 1) ≤ length_at ls k s
  loaded-rises k s hk hs = leb-true _ _ (length-within k s hk hs).1

  -- So a frame's largest length is at least 47 ticks and at most 400.
  pub length-bounds : (kind payload : ℕ) → payload ≤ 8 → (47 ≤ largest_length ls kind payload) × (largest_length ls kind payload ≤ 400)
  length-bounds kind payload few = rw (length-is ls kind payload few) (go (eqb kind 11))
    where
      go : (b : Bool) → (47 ≤ length_at ls (cond b 0 1) payload) × (length_at ls (cond b 0 1) payload ≤ 400)
      go true = loaded-limits 0 payload (omega arith) (omega arith)
      go false = loaded-limits 1 payload (omega arith) (omega arith)
