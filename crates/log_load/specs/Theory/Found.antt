-- The busiest stretch is the one that the definitions name.
use Prim.Native.Nat.{ℕ, suc, ◌-◌, ◌≤◌}
use Rattle.std.specs.Prelude.{◌≡◌, List}
use Rattle.std.proofs.Common.{sym, eq-eqb}
use Rattle.std.proofs.Math.Bool.{Bool}
use native.Mathlib.Omega.{arith}
use Rattle.std.proofs.Math.Decide.{dec_lt}
use Rattle.std.proofs.Math.Dec.{eqb, eqb→eq}
use Rattle.arith.specs.Lists.{greatest, range}
use Rattle.arith.specs.Laws.Members.{mem-range, of_range}
use Rattle.arith.specs.Laws.Sums.{le-greatest, greatest-le}
use Rattle.arith.specs.Laws.Least.{least_at, least-finds}
use Rattle.bus_log.specs.declared.Line.{Line}
use Rattle.bus_log.specs.Log.{last_end}
use Rattle.log_load.specs.Busy.{busy_in, Busiest, most_busy, first_busiest}
use Rattle.log_load.specs.Theory.Search.{busiest-exists}

module _ (log : List Line) (w : ℕ) (room : w ≤ last_end log) where
  abbrev many : ℕ
  many = suc (last_end log - w)

  -- No stretch has more than the busiest.
  pub busiest-most : (s : ℕ) → Busiest log w s → most_busy log w ≡ busy_in log w s
  unfolding most_busy
  busiest-most s b =
      let low : busy_in log w s ≤ greatest (busy_in log w) (range 0 many) = le-greatest (busy_in log w) (mem-range 0 many s (omega arith) (omega (arith, b.within))) in
      let high : greatest (busy_in log w) (range 0 many) ≤ busy_in log w s
      = greatest-le (range 0 many) (λ u m. b.most u (omega (arith, (of_range 0 many m).1))) in
      omega arith

  -- None that begins earlier has as many.
  pub busiest-first : (s : ℕ) → Busiest log w s → first_busiest log w ≡ s
  unfolding first_busiest
  busiest-first s b =
      let same = busiest-most s b in
      let p : ℕ → Bool = λ u. eqb (busy_in log w u) (most_busy log w) in
      let (u, found, le) = least-finds p many 0 s (omega arith) (omega (arith, b.within)) (rw (eq-eqb (busy_in log w s) (most_busy log w) (sym same)) tt) in
      let (x, y, t) = least_at p many 0 u found in
      let equal : busy_in log w u ≡ most_busy log w = eqb→eq _ _ t in
      let here : u ≡ s = elim (dec_lt u s) [
        | yes l ↦ absurd (omega (arith, b.first u l))
        | no n ↦ omega arith
      ] in
      rw found here

  -- "the greatest number of busy ticks in W consecutive ticks between 0 and the last end, and the earliest such stretch"
  pub first-busiest : Busiest log w (first_busiest log w) × (most_busy log w ≡ busy_in log w (first_busiest log w))
  first-busiest =
      let (s, b) = busiest-exists log w room in
      let e = busiest-first s b in
      rw e (b, busiest-most s b)
