-- The loops over the alignments of the groups, for the greatest of them and for the starts; and the instance.
use Rattle.std.specs.Prelude.{ℕ, suc, ◌+◌, ◌-◌, ◌≤◌, ◌<◌, max, ◌≡◌, refl, List, length, get_or, set, drop, replicate}
use Rattle.std.proofs.Common.{◌∙◌, append-nil, add-one, drop_of_length-le, drop-cons}
use native.Mathlib.Omega.{arith}
use Rattle.std.proofs.lemmas.List.{length-map}
use Rattle.arith.specs.Lists.{greatest}
use Rattle.arith.specs.Laws.Walks.{greatest-more}
use Rattle.arith.specs.Laws.Releases.{count-le}
use Rattle.arith.specs.Laws.Overwriting.{over, over-element, over-all}
use Rattle.bus_model.specs.declared.Frame.{Frame}
use Rattle.bus_model.specs.Worst.{meeting_tick, starts_of, instance_from}
use Rattle.bus_model.proofs.Theory.Reached.{start-at}

module _ (als : List ℕ) where
  -- the greatest of the first i alignments, with which the rest makes up the whole
  abbrev pub MostOf : ℕ → ℕ → Type 0
  MostOf i most = max most (greatest (λ a. a) (drop i als)) ≡ meeting_tick als

  pub most-none : MostOf 0 0
  unfolding meeting_tick
  most-none = omega arith

  pub most-next : (i most : ℕ) {next : ℕ} → i < length als → next ≡ max most (get_or als i 0) → MostOf i most → MostOf (i + 1) next
  most-next i most {next} inside is before =
      rw (add-one i) (rw (drop-cons als i 0 inside, greatest-more (λ a. a) most (get_or als i 0) {next = next} is (drop (suc i) als)) at before)

  pub most-all : (i most : ℕ) → length als ≤ i → MostOf i most → most ≡ meeting_tick als
  unfolding greatest
  most-all i most over before = omega (arith, rw (drop_of_length-le als {i = i} over) at before)

-- ---- the starts, of which i are written

abbrev pub StartsTo : List ℕ → ℕ → List ℕ → Type 0
StartsTo als i l = l ≡ over (starts_of als) i (replicate 16 0)

pub starts_none : (als : List ℕ) → StartsTo als 0 (replicate 16 0)
starts_none als = refl

all-starts : (als : List ℕ) → length als ≡ 16 → length (starts_of als) ≡ 16
unfolding starts_of
all-starts als size = length-map als (λ a. meeting_tick als - a) ∙ size

module _ (als : List ℕ) (size : length als ≡ 16) (i : ℕ) {l : List ℕ} (written : StartsTo als i l) where
  pub starts-next : {meeting v : ℕ} → i < 16 → meeting ≡ meeting_tick als → v ≡ meeting - get_or als i 0 → StartsTo als (i + 1) (set l i v)
  starts-next {meeting} {v} inside tick is =
      let inner : i < length als = omega arith in
      over-element (starts_of als) (replicate 16 0) l 16 (all-starts als size) i v written inside inside (omega (arith, start-at als i inner))

  pub starts-all : i ≤ 16 → 16 ≤ i → l ≡ starts_of als
  starts-all low high = over-all (starts_of als) (replicate 16 0) l 16 (all-starts als size) i written low high ∙ append-nil (starts_of als)

-- ---- the instance

-- Where the alignment is the offset or before, none is released before it.
pub none-released : (k : Frame) (a q : ℕ) → 1 ≤ k.period → a ≤ k.offset → q - 1 ≡ instance_from k a q
unfolding instance_from
none-released k a q some early = omega (arith, count-le k.offset some a 0 (omega arith))
