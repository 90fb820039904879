-- What the entry that checks a log answers, case by case.
use Rattle.std.specs.Prelude.{ℕ, ◌+◌, ◌*◌, ◌≤◌, ◌<◌, ◌≡◌, false, List, ◌++◌, eqb, ℤ, pos, neg_ℤ, length, drop, Ok, Err}
use borrow.Author.Tests.{ne_eqb, lt-ltb, le-ltb}
use Rattle.frame_table.specs.Table.{returns_for}
use Rattle.log_check.specs.declared.Refusal.{Refusal}
use Rattle.log_check.specs.Refusal.{number_of}
use Rattle.log_check.specs.Returns.{LogReturned, as_shown, log_returns}
use Rattle.log_check.specs.Laws.Returns.{number-some}
use Rattle.certifier.specs.LogEntry.{starts_answered, encode_answered, starts_area}

-- what the entry answers, and what it leaves
abbrev pub Stored : LogReturned → List ℕ → ℤ → List ℕ → Type 0
Stored r old answer new = (answer ≡ encode_answered (starts_answered r old)) × (new ≡ starts_area r old)

module _ (starts old : List ℕ) (size : length starts ≡ 16) where
  -- The area is too short: 8.
  pub stored_short : length old < 16 → Stored (as_shown starts) old (neg_ℤ (pos 80000)) old
  unfolding starts_answered encode_answered starts_area returns_for
  stored_short h = let t = lt-ltb (length old) 16 h in (rw (size, t), rw (size, t))

  -- The starts stand at its beginning.
  pub stored-all : 16 ≤ length old → Stored (as_shown starts) old (pos 16) (starts ++ drop (length starts) old)
  unfolding starts_answered encode_answered starts_area returns_for
  stored-all h = let t = le-ltb (length old) 16 h in (rw (size, t), rw (size, t))

-- A refusal leaves the area.
pub stored-not : (f : Refusal) (old : List ℕ) → Stored (log_returns (Err f)) old (neg_ℤ (pos (number_of f.cause * 10000 + f.place))) old
unfolding log_returns starts_answered encode_answered starts_area returns_for
stored-not f old = let n : eqb (number_of f.cause) 0 ≡ false = ne_eqb _ 0 (number-some f.cause) in (rw (n, n), rw (n, n))

-- Starts that are shown are stored as such.
pub stored-shown : (starts old : List ℕ) {answer : ℤ} {new : List ℕ} → Stored (as_shown starts) old answer new → Stored (log_returns (Ok starts)) old answer new
unfolding log_returns
stored-shown starts old both = both
