-- The numbers of a range that pass a test, put at the start of an area by a loop, one behind the other.
use Prim.Native.Nat.{ℕ, suc, ◌+◌, ◌-◌, ◌≤◌, ◌<◌}
use Rattle.std.specs.Prelude.{◌≡◌, refl, Bool, true, false, List, ◌∷◌, ◌++◌, set}
use Rattle.std.proofs.Math.Path.{sym, ap}
use Rattle.std.proofs.Common.{◌∙◌, append-nil, add-one, length-set, take-suc-set}
use native.Mathlib.Omega.{arith}
use Rattle.std.proofs.Math.ListN.{length, take, length-append}
use Rattle.std.proofs.Math.Seq.{length-take-le}
use Rattle.arith.specs.Lists.{keep, range}
use Rattle.arith.specs.Laws.Members.{keep-le, length-range}
use Rattle.arith.specs.Laws.Walks.{CountUp, count-more, count-end, keep-more, keep-less}

-- Of the numbers from s to e - 1 those below n that pass are the first `count` elements of an area, which has room for all that do.
pub record Gathered (p : ℕ → Bool) (s e size : ℕ) (area : List ℕ) (count n : ℕ) : Type 0 where
  pub whole : length area ≡ size
  pub room : length (keep p (range s (e - s))) ≤ size
  pub few : count ≤ size
  pub early : count + s ≤ n
  pub found : CountUp (keep p) ◌++◌ e (keep p (range s (e - s))) (take count area) n

-- There is room for all where there is for the range.
pub range-room : (p : ℕ → Bool) (s e : ℕ) {size : ℕ} → e - s ≤ size → length (keep p (range s (e - s))) ≤ size
range-room p s e room = omega (arith, keep-le p (range s (e - s)), length-range s (e - s))

module _ {p : ℕ → Bool} {s e size : ℕ} {area : List ℕ} where
  -- Before the first number there are none.
  pub gathered_none : length area ≡ size → s ≤ e → length (keep p (range s (e - s))) ≤ size → Gathered p s e size area 0 s
  gathered_none whole inside room = record { whole = whole; room = room; few = omega arith; early = omega arith; found = record { inside = inside; is = refl } }

  module _ {count n : ℕ} (g : Gathered p s e size area count n) where
    -- There is room for one that passes.
    pub gathered-room : n < e → p n ≡ true → count < size
    unfolding keep range
    gathered-room l t =
        let more : suc (e - suc n) ≡ e - n = omega arith in
        let all : take count area ++ (n ∷ keep p (range (suc n) (e - suc n))) ≡ keep p (range s (e - s)) = rw (← more, t) at g.found.is in
        omega (arith, g.room, ap length all, length-append (take count area) (n ∷ keep p (range (suc n) (e - suc n))), length-take-le count area (omega (arith, g.whole, g.few)))

    module _ (l : n < e) (b : Bool) (test : b ≡ p n) where
      -- A number that passes is put there.
      pub gathered-put : {area' : List ℕ} {count' : ℕ} → b ≡ true → area' ≡ set area count n → count' ≡ count + 1 → Gathered p s e size area' count' (n + 1)
      gathered-put t put more = rw (put, more) (record {
        whole = length-set area count n ∙ g.whole;
        room = g.room;
        few = omega (arith, gathered-room l (sym test ∙ t));
        early = omega (arith, g.early);
        found = count-more _ _ _ _ g.found l (keep-more _ (take count area) n {next = take (count + 1) (set area count n)} (sym test ∙ t) (rw add-one (take-suc-set area count n (omega (arith, g.whole, gathered-room l (sym test ∙ t))))));
      })

      -- Any other is passed over.
      pub gathered-skip : {area' : List ℕ} {count' : ℕ} → b ≡ false → area' ≡ area → count' ≡ count → Gathered p s e size area' count' (n + 1)
      gathered-skip f same still = rw (same, still) (record {
        whole = g.whole;
        room = g.room;
        few = g.few;
        early = omega (arith, g.early);
        found = count-more _ _ _ _ g.found l (keep-less _ (take count area) n (sym test ∙ f));
      })

    -- At the end all are there.
    pub gathered-all : e ≤ n → (take count area ≡ keep p (range s (e - s))) × (count ≡ length (keep p (range s (e - s)))) × (count ≤ size)
    gathered-all over =
        let all : take count area ≡ keep p (range s (e - s)) = sym (append-nil (take count area)) ∙ (unfold keep in count-end _ _ _ _ g.found over) in
        (all, sym (length-take-le count area (omega (arith, g.whole, g.few))) ∙ ap length all, g.few)
