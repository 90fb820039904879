-- What the entry that shows the last frame's worst case answers, case by case.
use Rattle.std.specs.Prelude.{ℕ, ◌≤◌, ◌<◌, ◌≡◌, refl, List, [], ◌∷◌, ◌++◌, ℤ, pos, neg_ℤ, length, drop, set, Option, Some, None}
use Rattle.std.proofs.Common.{arith}
use borrow.Author.Tests.{lt-ltb, le-ltb}
use Rattle.arith.specs.Laws.Overwriting.{begun-element}
use Rattle.row_judgement.specs.declared.Refusal.{Refusal}
use Rattle.worst_case.specs.declared.LastFrame.{LastFrame}
use Rattle.worst_case.specs.declared.WorstCase.{WorstCase}
use Rattle.certifier.specs.Encode.{encode_refusal, encode_judged}
use Rattle.certifier.specs.WorstEntry.{last_refused, encode_worst, worst_after}

-- what the entry answers, and what it leaves
abbrev pub LastShown : LastFrame → List ℕ → ℤ → List ℕ → Type 0
LastShown l old answer new = (answer ≡ encode_worst l (length old)) × (new ≡ worst_after l old)

-- A refusal leaves the area.
pub last-refused : (l : LastFrame) (f : Refusal) (old : List ℕ) → l ≡ last_refused f → LastShown l old (encode_refusal f) old
unfolding encode_worst worst_after encode_judged
last-refused l f old is = rw is (refl, refl)

module _ (l : LastFrame) (old : List ℕ) where
  -- None is shown: the area stays.
  pub last_none : ((w : WorstCase) → l.worst ≡ Some w → ⊥) → LastShown l old (encode_judged l.judged) old
  unfolding encode_worst worst_after
  last_none other = go l.worst refl
    where
      go : (o : Option WorstCase) → l.worst ≡ o → LastShown l old (encode_judged l.judged) old
      go (Some w) is = absurd (other w is)
      go None is = (rw is, rw is)

  module _ (w : WorstCase) (is : l.worst ≡ Some w) where
    -- The area is too short: 8.
    pub last-short : length old < 18 → LastShown l old (neg_ℤ (pos 80000)) old
    unfolding encode_worst worst_after
    last-short h = let t = lt-ltb (length old) 18 h in (rw (is, t), rw (is, t))

    -- The worst case stands at its beginning.
    pub last-all : 18 ≤ length old → LastShown l old (encode_judged l.judged) (((w.starts ++ (w.instance ∷ [])) ++ (w.response ∷ [])) ++ drop 18 old)
    unfolding encode_worst worst_after
    last-all h = let t = le-ltb (length old) 18 h in (rw (is, t), rw (is, t))

-- The response is written behind the numbers of a case.
pub response-behind : (p old : List ℕ) (b : ℕ) {new : List ℕ} → length p ≡ 17 → 18 ≤ length old → new ≡ p ++ drop 17 old → set new 17 b ≡ (p ++ (b ∷ [])) ++ drop 18 old
response-behind p old b size room is = (begun-element p old _ 17 (record { count = size; is = is }) b (omega arith)).is
