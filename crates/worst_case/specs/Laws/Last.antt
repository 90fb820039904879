-- The loop that finds the row of the frame that ranks last, which keeps the one of those before that does, and the loop that looks for a late
-- offset.
use Rattle.std.specs.Prelude.{ℕ, ◌+◌, ◌≤◌, ◌<◌, ◌≡◌, true, false, List, ltb, length}
use Rattle.std.proofs.Math.Path.{sym, ap}
use Rattle.std.proofs.Common.{subst, lt→ltb}
use native.Mathlib.Omega.{arith}
use Rattle.std.proofs.Math.Decide.{dec_lt}
use Rattle.std.proofs.Math.Dec.{ltb→lt}
use Rattle.arith.specs.Laws.Tests.{cond_yes, cond_no, cond_cases}
use Rattle.bus_model.specs.declared.Frame.{Frame}
use Rattle.bus_model.specs.Frame.{row}
use Rattle.bus_model.specs.Valid.{Valid}
use Rattle.bus_model.specs.Worst.{last_row, all_early}
use Rattle.bus_model.proofs.Theory.LastRow.{last-is, all-early, one-late}
use Rattle.worst_case.specs.Steps.{later_of, LastOf}

module _ (fs : List Frame) where
  -- the first row alone
  pub last-start : LastOf fs 1 0
  last-start = record { listed = omega arith; ranks = λ j l. let z : j ≡ 0 = omega arith in rw z (omega arith) }

  -- Of two rows the later one.
  module _ (a b : ℕ) {g h : Frame} (first : g ≡ row fs a) (second : h ≡ row fs b) where
    pub later_second : g.priority < h.priority → b ≡ later_of fs a b
    unfolding later_of
    later_second less = sym (cond_yes (ltb (row fs a).priority (row fs b).priority) b a (lt→ltb (row fs a).priority (row fs b).priority (omega (arith, ap (λ (f : Frame). f.priority) first, ap (λ (f : Frame). f.priority) second))))

    pub later_first : h.priority ≤ g.priority → a ≡ later_of fs a b
    unfolding later_of
    later_first le =
        sym (cond_no (ltb (row fs a).priority (row fs b).priority) b a (λ t. omega (arith, ltb→lt (row fs a).priority (row fs b).priority t, ap (λ (f : Frame). f.priority) first, ap (λ (f : Frame). f.priority) second)))

  -- a row more
  pub last-next : {i r n : ℕ} → LastOf fs i r → n ≡ later_of fs r i → LastOf fs (i + 1) n
  unfolding later_of
  last-next {i} {r} before is =
      rw is
      (cond_cases (LastOf fs (i + 1)) (ltb (row fs r).priority (row fs i).priority)
      (λ t. let more = ltb→lt (row fs r).priority (row fs i).priority t in record { listed = omega arith; ranks = λ j l. reaches i j l (omega arith) (omega arith) })
      (λ no. let less : ¬ ((row fs r).priority < (row fs i).priority) = λ h. no (lt→ltb (row fs r).priority (row fs i).priority h) in
      record { listed = omega (arith, before.listed); ranks = λ j l. reaches r j l (omega arith) (omega arith) }))
    where
      -- what reaches the best row so far and row i reaches every row up to it
      reaches : (m j : ℕ) → j < i + 1 → (row fs r).priority ≤ (row fs m).priority → (row fs i).priority ≤ (row fs m).priority → (row fs j).priority ≤ (row fs m).priority
      reaches m j l first second =
          elim (dec_lt j i) [
            | yes earlier ↦ omega (arith, before.ranks j earlier)
            | no same ↦ let e : j ≡ i = omega arith in rw e second
          ]

  -- all rows
  pub last-end : Valid fs → {i r : ℕ} → i ≡ length fs → LastOf fs i r → r ≡ last_row fs
  last-end valid all last =
      last-is fs valid (omega (arith, last.listed)) (λ j h. last.ranks j (omega arith))

  -- ---- offsets

  -- the first i rows have their offsets below their periods
  abbrev pub EarlyTo : ℕ → Type 0
  EarlyTo i = (j : ℕ) → j < i → (row fs j).offset < (row fs j).period

  pub late-found : {g : Frame} {i : ℕ} → g ≡ row fs i → i < length fs → g.period ≤ g.offset → false ≡ all_early fs
  late-found {i = i} is inside late = sym (one-late fs i inside (subst (λ (h : Frame). h.period ≤ h.offset) is late))

  pub early-next : {g : Frame} {i : ℕ} → g ≡ row fs i → EarlyTo i → g.offset < g.period → EarlyTo (i + 1)
  early-next {i = i} is before early j l =
      elim (dec_lt j i) [
        | yes earlier ↦ before j earlier
        | no same ↦ let e : j ≡ i = omega arith in rw e (subst (λ (h : Frame). h.offset < h.period) is early)
      ]

  pub early-end : {i : ℕ} → length fs ≤ i → EarlyTo i → true ≡ all_early fs
  early-end over each = sym (all-early fs (λ j l. each j (omega arith)))
