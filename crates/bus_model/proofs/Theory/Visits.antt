-- Numbers that pass a test, visited one after the other as a least search finds them: arith's `Walk`, from the first one on.
-- Where there are none, 0 is visited.
use Rattle.std.specs.Prelude.{ℕ, suc, ◌+◌, ◌-◌, ◌≤◌, ◌<◌, ◌≡◌, List, [], ◌∷◌, Bool, T, Option, Some, None}
use Rattle.std.proofs.Common.{sym, arith}
use Rattle.std.proofs.Math.Nat.{sub-zero}
use Rattle.arith.specs.Lists.{keep, exists, range}
use Rattle.arith.specs.Least.{least, or_zero}
use Rattle.arith.specs.Laws.Least.{least-within, least-finds, least-none}
use Rattle.arith.specs.Laws.Walks.{keep-next, keep-end}
use Rattle.bus_model.specs.Pattern.{of_group}
use Rattle.bus_model.specs.Bounds.{ahead, is_released_at, or_empty}
use Rattle.bus_model.specs.declared.Frame.{Frame}
use Rattle.bus_model.specs.Theory.Visits.{is_alignment}

-- Where no number below e passes, none from 1 on does.
none_left : (p : ℕ → Bool) (e : ℕ) → least p (e - 0) 0 ≡ None → keep p (range 1 (e - 1)) ≡ []
none_left p e none = keep-end p e 1 (least-none p (e - 1) 1 fails)
  where
    fails : (m : ℕ) → 1 ≤ m → m < 1 + (e - 1) → ¬ T (p m)
    fails m low high t = let (l, found, le) = least-finds p (e - 0) 0 m (omega arith) (omega arith) t in let z : ◌≡◌ {A = ℕ} 0 1 = cc in omega arith

-- The first to be visited is the one found, or 0; then come those that pass after it.
pub first-visited : (p : ℕ → Bool) (e : ℕ) → 1 ≤ e → (found : Option ℕ) → found ≡ least p (e - 0) 0
    → (or_zero found < e) × (or_empty (keep p (range 0 e)) ≡ or_zero found ∷ keep p (range (suc (or_zero found)) (e - suc (or_zero found))))
unfolding or_empty
first-visited p e some (Some a) is =
    let (low, high, t) = least-within p e (sym is) in
    let first : keep p (range 0 e) ≡ a ∷ keep p (range (suc a) (e - suc a)) = rw sub-zero at (keep-next p e 0 a (sym is)) in
    (high, rw first)
first-visited p e some None is =
    let none : keep p (range 0 e) ≡ [] = rw sub-zero at (keep-end p e 0 (sym is)) in
    (some, rw (none, none_left p e (sym is)))
