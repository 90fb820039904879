-- Bit stuffing, for any list of bits.
--     stuff-most       n bits are at most n + (n - 1) / 4 on the wire
--     most-reached     for each n there are n bits that are so many
--     destuff-stuff    leaving out the stuff bits gives the bits back
use Rattle.std.specs.Prelude.{ℕ, zero, suc, ◌+◌, ◌-◌, ◌/◌, ◌≤◌, ◌≡◌, refl, Bool, true, false, not, List, [], ◌∷◌, eqb, length}
use Rattle.std.proofs.Common.{ap, sym, ◌∙◌, eq-eqb, ne_eqb, eqb-true}
use Rattle.std.specs.Bool.{beq}
use native.Mathlib.Omega.{arith}
use Rattle.std.proofs.lemmas.Bool.{eqb-false}
use Rattle.arith.specs.Laws.Tests.{by-test}
use Rattle.frame_length.specs.DataFrame.{dominant}
use Rattle.frame_length.specs.Stuffing.{run_with, stuff_from, stuff}

-- ---- one bit

-- a run that a bit ends is at most one longer than the one before
run-grows : (last : Bool) (run : ℕ) (b : Bool) → (1 ≤ run_with last run b) × (run_with last run b ≤ run + 1)
run-grows last run b = by-test (beq b last) (λ e. rw e (omega arith, omega arith)) (λ e. rw e (omega arith, omega arith))

run-same : (last : Bool) (run : ℕ) → run_with last run last ≡ run + 1
run-same true run = refl
run-same false run = refl

none : (last : Bool) (run : ℕ) → stuff_from last run [] ≡ []
unfolding stuff_from
none last run = refl

module _ (last : Bool) (run : ℕ) (b : Bool) (bs : List Bool) where
  fifth : run_with last run b ≡ 5 → stuff_from last run (b ∷ bs) ≡ b ∷ not b ∷ stuff_from (not b) 1 bs
  unfolding stuff_from
  fifth e = rw (eq-eqb _ _ e, stuff_from)

  not-fifth : (run_with last run b ≡ 5 → ⊥) → stuff_from last run (b ∷ bs) ≡ b ∷ stuff_from b (run_with last run b) bs
  unfolding stuff_from
  not-fifth e = rw (ne_eqb _ _ e, stuff_from)

-- ---- how many stuff bits

-- after a run of r bits the first comes with bit 5 - r at the earliest, each other four bits after the one before
most-from : (last : Bool) (run : ℕ) (bs : List Bool) → run ≤ 4 → length (stuff_from last run bs) ≤ length bs + (length bs + run - 1) / 4
most-from last run [] h = rw (none last run) (omega arith)
most-from last run (b ∷ bs) h =
    let grows = run-grows last run b in
    by-test (eqb (run_with last run b) 5)
    (λ t. let e = eqb-true _ _ t in
    let rest = most-from (not b) 1 bs (omega arith) in
    rw (fifth last run b bs e) (omega (arith, grows)))
    (λ t. let e : (run_with last run b ≡ 5 → ⊥) = eqb-false _ _ t in
    let rest = most-from b (run_with last run b) bs (omega (arith, grows)) in
    rw (not-fifth last run b bs e) (omega (arith, grows)))

-- The one fact about n bits.
pub stuff-most : (bs : List Bool) → length (stuff bs) ≤ length bs + (length bs - 1) / 4
unfolding stuff
stuff-most bs = omega (arith, most-from dominant 0 bs (omega arith))

-- ---- the bound is reached

-- n bits that each go on with the run on the wire
worst_from : Bool → ℕ → ℕ → List Bool
worst_from last run zero = []
worst_from last run (suc n) =
    last ∷ elim (eqb (run + 1) 5) [ true ↦ worst_from (not last) 1 n | false ↦ worst_from last (run + 1) n ]

Worst : Bool → ℕ → ℕ → List Bool → Type 0
Worst last run n bs = (length bs ≡ n) × (length (stuff_from last run bs) ≡ n + (n + run - 1) / 4)

worst-from : (last : Bool) (run n : ℕ) → run ≤ 4 → Worst last run n (worst_from last run n)
unfolding worst_from Worst
worst-from last run zero h = rw (none last run) (refl, omega arith)
worst-from last run (suc n) h =
    by-test (eqb (run + 1) 5)
    (λ t. rw (t, worst_from) (fifth-worst (eqb-true _ _ t) (worst_from (not last) 1 n) (worst-from (not last) 1 n (omega arith))))
    (λ t. let e : (run + 1 ≡ 5 → ⊥) = eqb-false _ _ t in
    rw (t, worst_from) (other-worst e (worst_from last (run + 1) n) (worst-from last (run + 1) n (omega arith))))
  where
    fifth-worst : run + 1 ≡ 5 → (bs : List Bool) → Worst (not last) 1 n bs → Worst last run (suc n) (last ∷ bs)
    fifth-worst e bs w = rw (fifth last run last bs (run-same last run ∙ e)) (omega (arith, w), omega (arith, w))

    other-worst : (run + 1 ≡ 5 → ⊥) → (bs : List Bool) → Worst last (run + 1) n bs → Worst last run (suc n) (last ∷ bs)
    other-worst e bs w = rw (not-fifth last run last bs (λ f. e (sym (run-same last run) ∙ f)), run-same last run) (omega (arith, w), omega (arith, w))

-- Some n bits take as many as n bits can.
pub most-reached : (n : ℕ) → (bs : List Bool) × (length bs ≡ n) × (length (stuff bs) ≡ n + (n - 1) / 4)
unfolding stuff Worst
most-reached n =
    let worst = worst-from dominant 0 n (omega arith) in
    (worst_from dominant 0 n, worst.0, omega (arith, worst.1))

-- ---- the stuff bits left out

-- after five equal bits the next is a stuff bit
unfoldable pub destuff_from : Bool → ℕ → List Bool → List Bool
destuff_from last run [] = []
destuff_from last run (b ∷ bs) = elim (eqb run 5) [ true ↦ destuff_from b 1 bs | false ↦ b ∷ destuff_from b (run_with last run b) bs ]

unfoldable pub destuff : List Bool → List Bool
destuff bs = destuff_from dominant 0 bs

module _ (last : Bool) (run : ℕ) (h : run ≤ 4) (b : Bool) (bs : List Bool) where
  kept : destuff_from last run (b ∷ bs) ≡ b ∷ destuff_from b (run_with last run b) bs
  unfolding destuff_from
  kept = let n : (run ≡ 5 → ⊥) = omega arith in rw (ne_eqb _ _ n, destuff_from)

destuff-from : (last : Bool) (run : ℕ) (bs : List Bool) → run ≤ 4 → destuff_from last run (stuff_from last run bs) ≡ bs
unfolding destuff_from
destuff-from last run [] h = rw (none last run)
destuff-from last run (b ∷ bs) h =
    by-test (eqb (run_with last run b) 5)
    (λ t. let e = eqb-true _ _ t in
    rw (fifth last run b bs e, kept last run h b (not b ∷ stuff_from (not b) 1 bs), e)
    (ap {B = List Bool} (λ r. b ∷ r) (destuff-from (not b) 1 bs (omega arith))))
    (λ t. let e : (run_with last run b ≡ 5 → ⊥) = eqb-false _ _ t in
    rw (not-fifth last run b bs e, kept last run h b (stuff_from b (run_with last run b) bs))
    (ap {B = List Bool} (λ r. b ∷ r) (destuff-from b (run_with last run b) bs (omega (arith, run-grows last run b)))))

-- Nothing is lost by stuffing.
pub destuff-stuff : (bs : List Bool) → destuff (stuff bs) ≡ bs
unfolding destuff stuff
destuff-stuff bs = destuff-from dominant 0 bs (omega arith)
