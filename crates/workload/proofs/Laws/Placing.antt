-- Placing frames: those at the first places of the area, place by place.
use Rattle.std.specs.Prelude.{◌≡◌, ℕ, suc, ◌+◌, ◌<◌, ◌≤◌, Bool, true, false, cond, List, [], ◌∷◌, map, length, get_or, set, take, drop}
use Rattle.std.proofs.Math.Path.{refl, sym, ap}
use Rattle.std.proofs.Common.{◌∙◌, add-one, drop_of_length-le, drop-cons, below_more}
use native.Mathlib.Omega.{arith}
use Rattle.std.proofs.Math.Decide.{dec_le}
use Rattle.std.proofs.lemmas.List.{get_or-map}
use Rattle.std.proofs.lemmas.Simd.{map-map}
use Rattle.std.proofs.Math.ListN.{length-set, length-take}
use Rattle.std.proofs.Math.Seq.{get_or-set_same, get_or-set_other, get_or-take}
use Rattle.arith.specs.Lists.{keep, range}
use Rattle.arith.specs.Laws.Members.{map_same, of_range, list-places}
use Rattle.bus_model.specs.declared.Frame.{Frame}
use Rattle.bus_model.specs.declared.Choice.{Choice}
use Rattle.bus_model.specs.Frame.{no_frame, row}
use Rattle.workload.specs.declared.Search.{Search}
use Rattle.workload.specs.declared.placed.PlacedFrame.{PlacedFrame}
use Rattle.workload.specs.Prepared.{FineTable}
use Rattle.workload.specs.Placed.{Placed, is_load, placed_frame, placed_at, placed_in, placed_frames}
use Rattle.workload.proofs.Laws.Placed.{frames-few}

-- what stands at no place
abbrev pub no_placed : Placed
no_placed = record { length = 0; period = 0; first = 0 }

abbrev pub nothing_placed : PlacedFrame
nothing_placed = record { length = 0; period = 0; first = 0; inverse = 0 }

-- the frame at place i of the area
abbrev pub placed_there : List PlacedFrame → ℕ → Placed
placed_there ps i = placed_at (get_or ps i nothing_placed)

listed-in : (ps : List PlacedFrame) → map (placed_there ps) (range 0 (length ps)) ≡ placed_in ps
unfolding placed_in
listed-in ps = sym (map-map placed_at (λ (i : ℕ). get_or ps i nothing_placed) (range 0 (length ps))) ∙ ap (map placed_at) (list-places nothing_placed ps)

pub placed-at : (ps : List PlacedFrame) (i : ℕ) → i < length ps → get_or (placed_in ps) i no_placed ≡ placed_there ps i
unfolding placed_in
placed-at ps i l = get_or-map placed_at ps i nothing_placed no_placed l

-- the first i of a list stand in the area
pub record PutTo (f : ℕ → Placed) (area : List PlacedFrame) (i : ℕ) : Type 0 where
  pub size : length area ≡ 65
  pub each : (m : ℕ) → m < i → placed_there area m ≡ f m

module _ {f : ℕ → Placed} {area : List PlacedFrame} {i : ℕ} (s : PutTo f area i) where
  -- One more is put there.
  pub put-more : i < 65 → (x : PlacedFrame) → placed_at x ≡ f i → PutTo f (set area i x) (i + 1)
  put-more less x is = record {
    size = length-set area i x ∙ s.size;
    each = below_more _ _ (λ m l. ap placed_at (get_or-set_other area i m x nothing_placed (omega arith)) ∙ s.each m l)
        (ap placed_at (get_or-set_same area i x nothing_placed (omega (arith, s.size))) ∙ is);
  }

  -- At the end all of them do.
  pub put_all : i ≤ 65 → placed_in (take i area) ≡ map f (range 0 i)
  put_all few =
      let long : length (take i area) ≡ i = simp length-take (omega (arith, s.size)) in
      sym (listed-in (take i area))
      ∙ rw long (map_same (range 0 i) (λ m l. let less : m < i = omega (arith, (of_range 0 i l).1) in ap placed_at (get_or-take i area m nothing_placed less) ∙ s.each m less))

-- Of the frames to be placed the first m stand in the area; the others come from the rows from i on.
pub record PlacedTo (fs : List Frame) (k : Frame) (search : Search) (cs : List Choice) (area : List PlacedFrame) (m i : ℕ) : Type 0 where
  pub few : m ≤ i
  pub within : m ≤ length (placed_frames fs k search cs)
  pub put : PutTo (λ e. get_or (placed_frames fs k search cs) e no_placed) area m
  pub left : drop m (placed_frames fs k search cs) ≡ placed_frames (drop i fs) k search cs

module _ {A : Type 0} (d : A) (xs : List A) (m : ℕ) {y : A} {ys : List A} (left : drop m xs ≡ y ∷ ys) where
  some_left : m < length xs
  some_left =
      elim (dec_le (length xs) m) [
        | yes over ↦ absurd (let z : 0 ≡ suc (length ys) = ap length (sym (drop_of_length-le xs {i = m} over) ∙ left) in omega arith)
        | no under ↦ omega arith
      ]

  parts : get_or xs m d ∷ drop (suc m) xs ≡ y ∷ ys
  parts = sym (drop-cons xs m d some_left) ∙ left

  next-left : get_or xs m d ≡ y
  next-left = ap (λ (zs : List A). get_or zs 0 d) parts

  others-left : drop (suc m) xs ≡ ys
  others-left = ap (drop 1) parts

module _ {fs : List Frame} {k : Frame} {search : Search} {cs : List Choice} {area : List PlacedFrame} where
  -- At first none is.
  pub place_none : length area ≡ 65 → PlacedTo fs k search cs area 0 0
  place_none size = record { few = omega arith; within = omega arith; put = record { size = size; each = λ e l. absurd (omega arith) }; left = refl }

  module _ {m i : ℕ} (s : PlacedTo fs k search cs area m i) (inside : i < length fs) {g : Frame} (is : g ≡ row fs i) {b : Bool} (test : b ≡ is_load search k g) where
    -- what the rows from i on give
    rest : placed_frames (drop i fs) k search cs ≡ map (placed_frame cs) (cond b (g ∷ keep (is_load search k) (drop (suc i) fs)) (keep (is_load search k) (drop (suc i) fs)))
    unfolding keep
    rest = rw (drop-cons fs i no_frame inside, test, is)

    -- A frame that loads the scenario is put there,
    pub place-put : m < 65 → b ≡ true → (x : PlacedFrame) → placed_at x ≡ placed_frame cs g → {area' : List PlacedFrame} → area' ≡ set area m x → {m' : ℕ} → m' ≡ m + 1 → PlacedTo fs k search cs area' m' (i + 1)
    place-put room t x at put more =
        let now = s.left ∙ rw t at rest in
        rw (put, more) (record {
          few = omega (arith, s.few);
          within = omega (arith, some_left no_placed (placed_frames fs k search cs) m now);
          put = put-more s.put room x (at ∙ sym (next-left no_placed (placed_frames fs k search cs) m now));
          left = rw (add-one m, add-one i) (others-left no_placed (placed_frames fs k search cs) m now);
        })

    -- and any other is passed over.
    pub place-skip : b ≡ false → {area' : List PlacedFrame} → area' ≡ area → {m' : ℕ} → m' ≡ m → PlacedTo fs k search cs area' m' (i + 1)
    place-skip f same still = rw (same, still) (record { few = omega (arith, s.few); within = s.within; put = s.put; left = rw (add-one i) (s.left ∙ rw f at rest) })

  -- At the end all are.
  pub place-all : {m i : ℕ} → FineTable fs → PlacedTo fs k search cs area m i → length fs ≤ i → (placed_in (take m area) ≡ placed_frames fs k search cs) × (m ≤ 64)
  unfolding keep
  place-all {m} {i} table s over =
      let gs = placed_frames fs k search cs in
      let none : drop m gs ≡ [] = s.left ∙ ap (λ (xs : List Frame). placed_frames xs k search cs) (drop_of_length-le fs {i = i} over) in
      let all : length gs ≤ m =
      elim (dec_le (length gs) m) [
        | yes over ↦ over
        | no under ↦ absurd (let z : suc (length (drop (suc m) gs)) ≡ 0 = ap length (sym (drop-cons gs m no_placed (omega arith)) ∙ none) in omega arith)
      ] in
      let count : m ≡ length gs = omega (arith, s.within) in
      let few : m ≤ 64 = omega (arith, frames-few table k cs search) in
      (put_all s.put (omega arith) ∙ ap (λ (n : ℕ). map (λ e. get_or gs e no_placed) (range 0 n)) count ∙ list-places no_placed gs, few)
