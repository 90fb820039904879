-- The tests with which code finds the frame that ranks last, and whether the table's offsets are below their periods.
use Rattle.std.specs.Prelude.{ℕ, ◌-◌, ◌≤◌, ◌<◌, ◌≡◌, true, false, List, length, is_none}
use Rattle.std.proofs.Common.{sym, ap, ◌∙◌, le_antisymm, le→leb}
use native.Mathlib.Omega.{arith}
use Rattle.std.proofs.Math.Decide.{dec_lt}
use Rattle.std.proofs.Math.Dec.{leb, leb→le}
use Rattle.arith.specs.Lists.{greatest}
use Rattle.arith.specs.Least.{least, or_zero}
use Rattle.arith.specs.Laws.Members.{mem-get_d, place_of}
use Rattle.arith.specs.Laws.Sums.{le-greatest, greatest-exceeds}
use Rattle.arith.specs.Laws.Least.{least_at, least-finds, least-none, none-at, is-none}
use Rattle.bus_model.specs.Frame.{no_frame, row}
use Rattle.bus_model.specs.Valid.{Valid, Early}
use Rattle.bus_model.specs.Worst.{RanksLast, last_row, all_early}
use Rattle.bus_model.specs.declared.Frame.{Frame}

module _ (fs : List Frame) where
  -- ---- the frame that ranks last

  abbrev most : ℕ
  most = greatest (λ g. g.priority) fs

  -- Some row has the greatest priority number,
  has-most : 0 < length fs → (i : ℕ) × (i < length fs) × (most ≤ (row fs i).priority)
  has-most some =
      elim (dec_lt 0 most) [
        | yes more ↦
            let (g, m, over) = greatest-exceeds (λ g. g.priority) (most - 1) fs (omega arith) in
            let (i, inside, is) = place_of no_frame m in
            (i, inside, omega (arith, ap (λ (h : Frame). h.priority) is))
        | no none ↦ (0, some, omega arith)
      ]

  -- and the first that has it ranks last.
  pub last-row : 0 < length fs → (last_row fs < length fs) × RanksLast fs (last_row fs)
  unfolding last_row
  last-row some =
      let (i, inside, reaches) = has-most some in
      let (l, e, le) = least-finds (λ j. leb most (row fs j).priority) (length fs) 0 i (omega arith) (omega arith) (le→leb most _ reaches) in
      let (low, high, t) = least_at (λ j. leb most (row fs j).priority) (length fs) 0 l e in
      rw e (omega arith, λ j h. omega (arith, le-greatest (λ g. g.priority) (mem-get_d fs j no_frame h), leb→le most (row fs l).priority t))

  -- No other row does.
  pub last-is : Valid fs → {k : ℕ} → k < length fs → RanksLast fs k → k ≡ last_row fs
  last-is valid {k} inside last =
      let (listed, ranks) = last-row (omega arith) in
      valid.distinct k (last_row fs) inside listed (le_antisymm (ranks k inside) (last (last_row fs) listed))

  -- ---- offsets below their periods

  pub early-of : all_early fs ≡ true → Early fs
  unfolding all_early
  early-of t i inside =
      let none = is-none (least (λ j. leb (row fs j).period (row fs j).offset) (length fs) 0) t in
      let no : ¬ ((row fs i).period ≤ (row fs i).offset) = λ late.
      none-at (sym none ∙ (least-finds (λ j. leb (row fs j).period (row fs j).offset) (length fs) 0 i (omega arith) (omega arith) (le→leb _ _ late)).1) in
      omega arith

  pub all-early : Early fs → all_early fs ≡ true
  unfolding all_early
  all-early early =
      rw (least-none (λ j. leb (row fs j).period (row fs j).offset) (length fs) 0 (λ i low inside t. omega (arith, early i (omega arith), leb→le (row fs i).period (row fs i).offset t)))

  pub one-late : (i : ℕ) → i < length fs → (row fs i).period ≤ (row fs i).offset → all_early fs ≡ false
  unfolding all_early
  one-late i inside late =
      rw (least-finds (λ j. leb (row fs j).period (row fs j).offset) (length fs) 0 i (omega arith) (omega arith) (le→leb _ _ late)).1
