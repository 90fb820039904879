-- The search for the least number that passes a test.
-- Its laws are in Laws/Least.antt.
use Rattle.std.specs.Prelude.{ℕ, zero, suc, Bool, true, false, Option, Some, None, unwrap_or}

-- the least of n, n + 1, .., n + k - 1 that passes the test
unfoldable pub least : (ℕ → Bool) → ℕ → ℕ → Option ℕ
least p zero n = None
least p (suc k) n = elim (p n) [ true ↦ Some n | false ↦ least p k (suc n) ]

-- the number found, 0 where there is none
abbrev pub or_zero : Option ℕ → ℕ
or_zero o = unwrap_or o 0
