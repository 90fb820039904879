-- The engine that moves tick by tick writes the same log.
use Prim.Native.Nat.{ℕ, zero, suc, ◌+◌, ◌-◌, ◌*◌, ◌≤◌, ◌<◌, max}
use Rattle.std.specs.Prelude.{◌≡◌, true, length}
use Rattle.std.proofs.Math.Path.{refl, ap}
use Rattle.std.proofs.Common.{sym, ◌∙◌, add-one, le-leb, ne_eqb}
use mathlib.Core.List.{List, [], ◌∷◌, map}
use Rattle.std.proofs.Math.Bool.{false, cond}
use native.Mathlib.Omega.{arith}
use Rattle.std.proofs.lemmas.Bool.{lt-leb}
use Rattle.std.proofs.Math.Dec.{leb}
use Rattle.arith.specs.Lists.{exists, range}
use Rattle.arith.specs.Laws.Members.{exists-mem, mem-range}
use Rattle.bus_model.specs.Frame.{row}
use Rattle.bus_model.specs.Release.{release}
use Rattle.bus_model.specs.Bus.{one_more}
use Rattle.bus_model.specs.declared.Frame.{Frame}
use Rattle.table_checks.specs.Frames.{frames_of}
use Rattle.table_checks.specs.Checks.{Loadable, Accepted}
use Rattle.bus_log.specs.declared.Entry.{Entry}
use Rattle.bus_log.specs.Follow.{start_of}
use Rattle.bus_log.proofs.Theory.Step.{of_T}
use Rattle.generator.specs.Draw.{draw_from}
use Rattle.simulator.specs.declared.Engine.{Engine}
use Rattle.simulator.specs.declared.Starts.{Starts}
use Rattle.simulator.specs.Engine.{start_next, unranked, rank_at, row_next, entry_next, moved_by, stepped, after, entry_at, entries_from}
use Rattle.simulator.specs.Starts.{starts_drawn, first_of, engine_of}
use Rattle.simulator.specs.Text.{line_of, lines_from}
use Rattle.simulator.specs.Simulate.{log_of}
use Rattle.simulator.specs.Ticker.{Ticker, is_queued, is_start, begun_row, begun, started, later, ticks, tick_log}
use Rattle.simulator.proofs.Theory.Lowest.{lowest-same}
use Rattle.simulator.proofs.Theory.Bounds.{row_within, row_inside, length-drawn, after-within}
use Rattle.simulator.proofs.Theory.First.{first-within, starts-early}
use Rattle.simulator.proofs.Theory.Follows.{not-before, sent-waits, Holds, holds_after, first_holds}

abbrev at : ℕ → ℕ → ℕ → (ℕ → ℕ) → Ticker
at v t m sent = record { drawn = v; tick = t; left = m; sent = sent }

module _ (fs : List Frame) (starts : ℕ → ℕ) where
  ticks-none : (m : ℕ) (q : Ticker) → ticks fs starts m 0 q ≡ []
  unfolding ticks
  ticks-none zero q = refl
  ticks-none (suc m) q = refl

  ticks-start : (m n : ℕ) (q : Ticker) → is_start fs starts q ≡ true → ticks fs starts (suc m) (suc n) q ≡ begun fs starts q ∷ ticks fs starts m n (started fs starts q)
  unfolding ticks
  ticks-start m n q e = rw (e, ticks)

  ticks-on : (m n : ℕ) (q : Ticker) → is_start fs starts q ≡ false → ticks fs starts (suc m) (suc n) q ≡ ticks fs starts m (suc n) (later q)
  unfolding ticks
  ticks-on m n q e = rw (e, ticks)

  is-busy : (b v t : ℕ) (sent : ℕ → ℕ) → is_start fs starts (at v t (suc b) sent) ≡ false
  unfolding is_start
  is-busy b v t sent = rw (ne_eqb (suc b) 0 (λ (q : suc b ≡ 0). omega arith))

  -- While a transmission is on the bus nothing starts.
  busy : (b m n v t : ℕ) (sent : ℕ → ℕ) → ticks fs starts (b + m) (suc n) (at v t b sent) ≡ ticks fs starts m (suc n) (at v (t + b) 0 sent)
  unfolding later
  busy zero m n v t sent = let z : 0 + m ≡ m = omega arith in let y : t + 0 ≡ t = omega arith in rw (z, y)
  busy (suc b) m n v t sent =
      let z : suc b + m ≡ suc (b + m) = omega arith in
      let y : t + suc b ≡ suc t + b = omega arith in
      let x : suc b - 1 ≡ b = omega arith in
      rw (z, y) (ticks-on (b + m) n (at v t (suc b) sent) (is-busy b v t sent) ∙ rw x (busy b m n v (suc t) sent))

  -- after its first tick, whether more are wanted or not
  through : (b m n v t : ℕ) (sent : ℕ → ℕ) → ticks fs starts (b + m) n (at v t b sent) ≡ ticks fs starts m n (at v (t + b) 0 sent)
  through b m zero v t sent = ticks-none (b + m) _ ∙ sym (ticks-none m _)
  through b m (suc n) v t sent = busy b m n v t sent

  none-queued : (v t : ℕ) (sent : ℕ → ℕ) → ((i : ℕ) → i < length fs → t < release starts (row fs i) (sent i)) → is_start fs starts (at v t 0 sent) ≡ false
  unfolding is_start is_queued exists range
  none-queued v t sent h = go (length fs) 0 (λ i low high. h i (omega arith))
    where
      go : (n k : ℕ) → ((i : ℕ) → k ≤ i → i < k + n → t < release starts (row fs i) (sent i)) → exists (λ i. leb (release starts (row fs i) (sent i)) t) (range k n) ≡ false
      go zero k h = refl
      go (suc n) k h = rw (lt-leb (release starts (row fs k) (sent k)) t (h k (omega arith) (omega arith))) (go n (suc k) (λ i low high. h i (omega arith) (omega arith)))

  some-queued : (v t : ℕ) (sent : ℕ → ℕ) (i : ℕ) → i < length fs → release starts (row fs i) (sent i) ≤ t → is_start fs starts (at v t 0 sent) ≡ true
  unfolding is_start is_queued
  some-queued v t sent i l h =
      of_T _ (exists-mem (λ i. leb (release starts (row fs i) (sent i)) t) (mem-range 0 (length fs) i (omega arith) (omega arith)) (rw (le-leb (release starts (row fs i) (sent i)) t h) tt))

  -- While nothing is queued nothing starts.
  idle : (b m n v t : ℕ) (sent : ℕ → ℕ) → ((i : ℕ) → i < length fs → t + b ≤ max t (release starts (row fs i) (sent i)))
      → ticks fs starts (b + m) (suc n) (at v t 0 sent) ≡ ticks fs starts m (suc n) (at v (t + b) 0 sent)
  unfolding later
  idle zero m n v t sent h = let z : 0 + m ≡ m = omega arith in let y : t + 0 ≡ t = omega arith in rw (z, y)
  idle (suc b) m n v t sent h =
      let z : suc b + m ≡ suc (b + m) = omega arith in
      let y : t + suc b ≡ suc t + b = omega arith in
      rw (z, y) (ticks-on (b + m) n (at v t 0 sent) (none-queued v t sent (λ i l. omega (arith, h i l))) ∙ idle b m n v (suc t) sent (λ i l. omega (arith, h i l)))

module _ (ls : List (List ℕ)) (loadable : Loadable ls) (t : List ℕ) (accepted : Accepted t) (starts : ℕ → ℕ) where
  abbrev fs : List Frame
  fs = frames_of ls t

  start-from : (s : Engine) → s.free ≤ start_next (length (frames_of ls t)) s
  unfolding start_next
  start-from s = omega arith

  module _ (s : Engine) (sent : ℕ → ℕ) (holds : Holds ls loadable t accepted starts s sent) where
    -- Both pick the same row,
    same_row : (v : ℕ) → begun_row fs starts (at v (start_next (length fs) s) 0 sent) ≡ row_next fs s
    unfolding begun_row is_queued row_next rank_at
    same_row v =
        lowest-same _ _ (length fs) (λ i l. ap (λ (d : ℕ). cond (leb d (start_next (length fs) s)) (row fs i).priority unranked) (holds.next i l))

    -- and send the same.
    same-entry : begun fs starts (at s.drawn (start_next (length fs) s) 0 sent) ≡ entry_next fs s (draw_from s.drawn)
    unfolding begun entry_next
    same-entry = rw (same_row s.drawn, holds.next (row_next fs s) (row_inside ls loadable t accepted s))

    starts-then : (entry_next fs s (draw_from s.drawn)).start ≡ start_next (length fs) s
    unfolding entry_next
    starts-then = refl

    takes : 1 ≤ (entry_next fs s (draw_from s.drawn)).length
    unfolding entry_next
    takes =
        let k : ℕ = row_next fs s in
        (length-drawn (draw_from s.drawn) (row fs k).length (row_within ls loadable t accepted k (row_inside ls loadable t accepted s)).length-min).0

    goes_on : let e : Entry = entry_next fs s (draw_from s.drawn) in
        started fs starts (at s.drawn (start_next (length fs) s) 0 sent) ≡ at (draw_from s.drawn) (suc (start_next (length fs) s)) (e.length - 1) (one_more sent e.frame)
    unfolding started
    goes_on = rw same-entry

    -- One transmission: the ticks up to its start, and those that it takes.
    one : (m n : ℕ) → let e : Entry = entry_next fs s (draw_from s.drawn) in
        ticks fs starts (e.start - s.free + (e.length + m)) (suc n) (at s.drawn s.free 0 sent)
        ≡ e ∷ ticks fs starts m n (at (draw_from s.drawn) (e.start + e.length) 0 (one_more sent e.frame))
    one m n =
        let v : ℕ = draw_from s.drawn in
        let e : Entry = entry_next fs s v in
        let c : ℕ = e.length in
        let u : ℕ = start_next (length fs) s in
        let k : ℕ = row_next fs s in
        let q : Ticker = at s.drawn u 0 sent in
        let inside : k < length fs = row_inside ls loadable t accepted s in
        let reach : s.free + (u - s.free) ≡ u = omega (arith, start-from s) in
        let wait : ticks fs starts (u - s.free + (c + m)) (suc n) (at s.drawn s.free 0 sent) ≡ ticks fs starts (c + m) (suc n) q
        = idle fs starts (u - s.free) (c + m) n s.drawn s.free sent (λ i l. omega (arith, holds.next i l, not-before ls loadable t accepted s i l))
        ∙ ap (λ (x : ℕ). ticks fs starts (c + m) (suc n) (at s.drawn x 0 sent)) reach in
        let queued : is_start fs starts q ≡ true = some-queued fs starts s.drawn u sent k inside (omega (arith, holds.next k inside, sent-waits ls loadable t accepted s)) in
        let split : c + m ≡ suc (c - 1 + m) = omega (arith, takes) in
        let ends : suc u + (c - 1) ≡ e.start + c = omega (arith, takes, starts-then) in
        let on : ticks fs starts (c - 1 + m) n (started fs starts q) ≡ ticks fs starts m n (at v (e.start + c) 0 (one_more sent e.frame))
        = ap (ticks fs starts (c - 1 + m) n) goes_on
        ∙ through fs starts (c - 1) m n v (suc u) (one_more sent e.frame)
        ∙ ap (λ (x : ℕ). ticks fs starts m n (at v x 0 (one_more sent e.frame))) ends in
        ap (λ (x : ℕ). ticks fs starts (x - s.free + (c + m)) (suc n) (at s.drawn s.free 0 sent)) starts-then
        ∙ wait
        ∙ ap (λ (x : ℕ). ticks fs starts x (suc n) q) split
        ∙ ticks-start fs starts (c - 1 + m) n q queued
        ∙ ap (λ (x : Entry). x ∷ ticks fs starts (c - 1 + m) n (started fs starts q)) same-entry
        ∙ ap {B = List Entry} (λ (x : List Entry). e ∷ x) on

  -- ---- all of them

  free-later : (first : Engine) (i n : ℕ) → (after fs first i).free ≤ (after fs first (i + n)).free
  unfolding after stepped moved_by entry_next start_next
  free-later first i zero = let z : i + 0 ≡ i = omega arith in rw z (omega arith)
  free-later first i (suc n) = let z : i + suc n ≡ suc (i + n) = omega arith in rw z (omega (arith, free-later first i n))

  module _ (first : Engine) (i : ℕ) where
    next-is : after fs first (i + 1) ≡ moved_by fs (after fs first i) (draw_from (after fs first i).drawn) (entry_at fs first i)
    unfolding after stepped entry_at
    next-is = rw (add-one i)

    next_drawn : (after fs first (i + 1)).drawn ≡ draw_from (after fs first i).drawn
    unfolding moved_by
    next_drawn = ap (λ (p : Engine). p.drawn) next-is

    next-free : (after fs first (i + 1)).free ≡ (entry_at fs first i).start + (entry_at fs first i).length
    unfolding moved_by
    next-free = ap (λ (p : Engine). p.free) next-is

    next-holds : (sent : ℕ → ℕ) → Holds ls loadable t accepted starts (after fs first i) sent
        → Holds ls loadable t accepted starts (after fs first (i + 1)) (one_more sent (entry_at fs first i).frame)
    unfolding entry_at entry_next
    next-holds sent holds =
        rw next-is (holds_after ls loadable t accepted starts (after fs first i) sent holds (draw_from (after fs first i).drawn))

    not-early : (after fs first i).free ≤ (entry_at fs first i).start
    unfolding entry_at entry_next start_next
    not-early = omega arith

  -- The ticks up to the end of the last transmission suffice, and no more transmissions are taken than are wanted.
  ticks-same : (first : Engine) (n i m : ℕ) (sent : ℕ → ℕ) → Holds ls loadable t accepted starts (after fs first i) sent
      → (after fs first (i + n)).free ≤ (after fs first i).free + m
      → ticks fs starts m n (at (after fs first i).drawn (after fs first i).free 0 sent) ≡ entries_from fs first n i
  unfolding entries_from
  ticks-same first zero i m sent holds enough = ticks-none fs starts m _
  ticks-same first (suc n) i m sent holds enough =
      let s : Engine = after fs first i in
      let e : Entry = entry_at fs first i in
      let y : i + suc n ≡ i + 1 + n = omega arith in
      let all : (after fs first (i + 1 + n)).free ≤ s.free + m = rw y at enough in
      let on : (after fs first (i + 1)).free ≤ (after fs first (i + 1 + n)).free = free-later first (i + 1) n in
      let rest : ℕ = s.free + m - (after fs first (i + 1)).free in
      let whole : m ≡ e.start - s.free + (e.length + rest) = omega (arith, next-free first i, not-early first i) in
      let tail : ticks fs starts rest n (at (draw_from s.drawn) (e.start + e.length) 0 (one_more sent e.frame)) ≡ entries_from fs first n (i + 1)
      = rw (← next_drawn first i, ← next-free first i) (ticks-same first n (i + 1) rest (one_more sent e.frame) (next-holds first i sent holds) (omega arith)) in
      let head : ticks fs starts (e.start - s.free + (e.length + rest)) (suc n) (at s.drawn s.free 0 sent)
      ≡ e ∷ ticks fs starts rest n (at (draw_from s.drawn) (e.start + e.length) 0 (one_more sent e.frame)) = unfold entry_at in one s sent holds rest n in
      ap (λ (x : ℕ). ticks fs starts x (suc n) (at s.drawn s.free 0 sent)) whole
      ∙ head
      ∙ ap {B = List Entry} (λ (x : List Entry). e ∷ x) tail

  -- from drawn starts
  drawn-same : (d : Starts) (n m : ℕ) → Holds ls loadable t accepted starts (first_of fs d) (λ i. 0) → (after fs (first_of fs d) n).free ≤ m
      → ticks fs starts m n (at d.drawn 0 0 (λ i. 0)) ≡ entries_from fs (first_of fs d) n 0
  unfolding first_of after
  drawn-same d n m holds enough =
      let z : 0 + n ≡ n = omega arith in
      ticks-same (first_of fs d) n 0 m (λ i. 0) holds (rw z (omega arith))

-- In so many ticks or more it writes the log of n lines.
pub ticks-log : (ls : List (List ℕ)) → Loadable ls → (t : List ℕ) → Accepted t → (seed m n : ℕ) → 2000000 + 1000000 * n ≤ m
    → tick_log ls t seed m n ≡ log_of ls t seed n
unfolding tick_log log_of lines_from engine_of
ticks-log ls loadable t accepted seed m n long =
    let d : Starts = starts_drawn (frames_of ls t) seed 16 in
    let within = first-within ls loadable t accepted d (starts-early ls loadable t accepted seed 16 (omega arith)) in
    let end = (after-within ls loadable t accepted (first_of (frames_of ls t) d) 2000000 n within).free in
    ap (map (line_of t))
    (drawn-same ls loadable t accepted (start_of d.starts) d n m (first_holds ls loadable t accepted d within.size) (omega arith))
