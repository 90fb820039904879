-- The busiest stretch is found among the places where it can begin: the greatest count, and of those with it the earliest.
use Rattle.std.specs.Prelude.{ℕ, suc, ◌+◌, ◌-◌, ◌≤◌, ◌<◌, ◌≡◌, refl, Bool, List, eqb}
use Rattle.std.proofs.Common.{subst, inl, inr, arith, eq-eqb, eqb→eq}
use Rattle.std.proofs.Math.Decide.{dec_lt}
use Rattle.arith.specs.Lists.{range}
use Rattle.arith.specs.Laws.Members.{Lowest, lowest, mem-range, of_range}
use Rattle.arith.specs.Laws.Least.{least_at, least-finds, least-le}
use Rattle.bus_log.specs.declared.Line.{Line}
use Rattle.bus_log.specs.Log.{last_end}
use Rattle.log_load.specs.Busy.{busy_in, Busiest}
use Rattle.log_load.specs.Theory.Stretch.{Place, busiest-place, busy-most}

module _ (log : List Line) (w : ℕ) (room : w ≤ last_end log) where
  -- how many places there are
  abbrev many : ℕ
  many = suc (last_end log - w)

  -- There is a busiest stretch.
  pub busiest-exists : (s : ℕ) × Busiest log w s
  busiest-exists =
      elim (lowest (λ s. w - busy_in log w s) (range 0 many)) [
        | inl empty ↦ absurd (empty 0 (mem-range 0 many 0 (omega arith) (omega arith)))
        | inr l ↦ from l
      ]
    where
      from : Lowest (λ s. w - busy_in log w s) (range 0 many) → (s : ℕ) × Busiest log w s
      from l =
          let k = l.element in
          let (low, high) = of_range 0 many l.listed in
          let p : ℕ → Bool = λ s. eqb (busy_in log w s) (busy_in log w k) in
          let (s, found, le) = least-finds p many 0 k (omega arith) (omega arith) (rw (eq-eqb (busy_in log w k) (busy_in log w k) refl) tt) in
          let (a, b, t) = least_at p many 0 s found in
          let same : busy_in log w s ≡ busy_in log w k = eqb→eq _ _ t in
          let most : (u : ℕ) → u + w ≤ last_end log → busy_in log w u ≤ busy_in log w k
          = λ u h. omega (arith, l.least u (mem-range 0 many u (omega arith) (omega arith)), busy-most log w u, busy-most log w k) in (
            s,
            record {
              within = omega arith;
              most = λ u h. omega (arith, most u h);
              first = λ u h. elim (dec_lt (busy_in log w u) (busy_in log w s)) [
                | yes y ↦ y
                | no n ↦ absurd (omega (arith, least-le p many 0 s u found (omega arith) (rw (eq-eqb (busy_in log w u) (busy_in log w k) (omega (arith, most u (omega arith)))) tt)))
              ];
            },
          )

  -- s is best among the places: it is within, no place has more, and no earlier place has as much.
  pub record BestPlace (s : ℕ) : Type 0 where
    pub within : s + w ≤ last_end log
    pub most : (u : ℕ) → Place log w u → u + w ≤ last_end log → busy_in log w u ≤ busy_in log w s
    pub first : (u : ℕ) → Place log w u → u < s → busy_in log w u < busy_in log w s

  -- The best place is where the busiest stretch begins.
  pub best-busiest : 1 ≤ w → (s : ℕ) → BestPlace s → Busiest log w s
  best-busiest some s best =
      let (z, b) = busiest-exists in
      let place = busiest-place log w z some b in
      let more = best.most z place b.within in
      let same : busy_in log w z ≡ busy_in log w s = omega (arith, b.most s best.within) in
      let here : z ≡ s = elim (dec_lt z s) [
        | yes l ↦ absurd (omega (arith, best.first z place l))
        | no n ↦ elim (dec_lt s z) [ yes l ↦ absurd (omega (arith, b.first s l)) | no m ↦ omega arith ]
      ] in
      subst (Busiest log w) here b
