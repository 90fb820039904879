-- The best of all places is the busiest stretch.
use Rattle.std.specs.Prelude.{ℕ, ◌+◌, ◌-◌, ◌≤◌, ◌<◌, ◌≡◌, List, length}
use Rattle.std.proofs.Common.{sym, ap, ◌∙◌, arith, lt-ltb, le-ltb}
use Rattle.std.proofs.Math.Decide.{dec_lt}
use Rattle.arith.specs.Laws.Members.{place_of}
use Rattle.bus_log.specs.declared.Line.{Line}
use Rattle.bus_log.specs.Log.{last_end}
use Rattle.log_load.specs.declared.Best.{Best}
use Rattle.log_load.specs.declared.Walk.{Walk}
use Rattle.log_load.specs.declared.Window.{Window}
use Rattle.log_load.specs.Busy.{busy_in, most_busy, first_busiest}
use Rattle.log_load.specs.Steps.{Ordered, nth, better, Walked, Sound, Covers, Carries, Before, Tried, start_of, from_end}
use Rattle.log_load.specs.Theory.Stretch.{Place, origin, with-start, with-end}
use Rattle.log_load.specs.Theory.Search.{BestPlace, best-busiest}
use Rattle.log_load.specs.Theory.Found.{busiest-most, busiest-first}
use Rattle.log_load.specs.Theory.Walk.{ordered-pair, walk_start, busy-ends}

module _ (log : List Line) (w : ℕ) where
  -- ---- one place more

  -- A stretch covers itself.
  covers-own : (b : Best) → Sound log w b → Covers log w b b.first
  covers-own b s = record { most = λ h. omega (arith, s.counts); first = λ h l. absurd (omega arith) }

  -- What is not within is covered.
  covers-beyond : (b : Best) (u : ℕ) → last_end log < u + w → Covers log w b u
  covers-beyond b u l = record { most = λ h. absurd (omega arith); first = λ h m. absurd (omega arith) }

  carries_same : (b : Best) → Carries log w b b
  carries_same b = record { carries = λ u c. c }

  more : (a b : Best) → a.count < b.count → Carries log w a b
  more a b l = record { carries = λ u c. record { most = λ h. omega (arith, c.most h); first = λ h e. omega (arith, c.most h) } }

  earlier : (a b : Best) → a.count ≡ b.count → b.first ≤ a.first → Carries log w a b
  earlier a b same l =
      record {
        carries = λ u c. record {
          most = λ h. omega (arith, c.most h);
          first = λ h e. omega (arith, c.first h (omega arith));
        };
      }

  -- The better of two covers what either does.
  better-carries : (a b : Best) → Sound log w a → Sound log w b
      → Sound log w (better a b) × Carries log w a (better a b) × Carries log w b (better a b)
  unfolding better
  better-carries a b p q =
      elim (dec_lt a.count b.count) [
        | yes l ↦ rw (lt-ltb a.count b.count l) (q, more a b l, carries_same b)
        | no l ↦ rw (le-ltb a.count b.count (omega arith)) (elim (dec_lt b.count a.count) [
          | yes g ↦ rw (lt-ltb b.count a.count g) (p, carries_same a, more b a g)
          | no g ↦ rw (le-ltb b.count a.count (omega arith)) (elim (dec_lt b.first a.first) [
            | yes e ↦ rw (lt-ltb b.first a.first e) (q, earlier a b (omega arith) (omega arith), carries_same b)
            | no e ↦ rw (le-ltb b.first a.first (omega arith)) (p, carries_same a, earlier b a (omega arith) (omega arith))
          ])
        ])
      ]

  -- ---- a window

  -- It may move on to a later place.
  before-later : (s u : ℕ) → s ≤ u → (win : Window) → Before log w s win → Before log w u win
  before-later s u h win b = record {
    from = record { until = λ v g. b.from.until v (omega arith) };
    to = record { until = λ v g. b.to.until v (omega arith) };
    sound = b.sound;
  }

  -- It stays where the stretch would end after the last end,
  pub window-stays : (s : ℕ) (win : Window) → Before log w s win → last_end log < s + w
      → Before log w s win × Carries log w win.best win.best × Covers log w win.best s
  window-stays s win b over = (b, carries_same win.best, covers-beyond win.best s over)

  -- and moves where it is within.
  pub window-moves : (s : ℕ) (win : Window) (from to : Walk) (count : ℕ) (next : Best) → Before log w s win → s + w ≤ last_end log
      → Walked log s from.line from.done → from.busy ≡ busy_in log s 0
      → Walked log (s + w) to.line to.done → to.busy ≡ busy_in log (s + w) 0
      → count ≡ to.busy - from.busy → next ≡ better win.best (record { count = count; first = s })
      → Before log w s (record { from = from; to = to; best = next }) × Carries log w win.best next × Covers log w next s
  window-moves s win from to count next b within f f-is t t-is c e =
      let new : Best = record { count = count; first = s } in
      let sound : Sound log w new = record { within = within; counts = omega (arith, c, f-is, t-is, busy-ends log w s) } in
      let (x, y, z) = better-carries win.best new b.sound sound in
      rw e (record { from = f; to = t; sound = x }, y, z.carries s (covers-own new sound))

  -- ---- all places

  module _ (ordered : Ordered 0 log) where
    -- It starts with the stretch from 0 on.
    pub tried-start : (place : ℕ → ℕ) (from to : Walk) → w ≤ last_end log → from.line ≡ 0 → from.done ≡ 0
        → Walked log w to.line to.done → to.busy ≡ busy_in log w 0
        → Tried log w place 0 (record { from = from; to = to; best = record { count = to.busy; first = 0 } })
    tried-start place from to room line done t is =
        let best : Best = record { count = to.busy; first = 0 } in
        let s : Sound log w best = record { within = omega arith; counts = is } in
        record {
          sound = s;
          origin = covers-own best s;
          covers = λ j l. absurd (omega arith);
          before = λ j l h. record {
            from = rw (line, done) (walk_start log ordered (place j));
            to = record { until = λ v g. t.until v (omega arith) };
            sound = s;
          };
        }

    -- A place more, where later ones are not before it.
    pub tried-more : (place : ℕ → ℕ) (i s : ℕ) (a b : Window) → Tried log w place i a → ((j : ℕ) → i < j → j < length log → place i ≤ place j) → s ≡ place i
        → Before log w s b × Carries log w a.best b.best × Covers log w b.best s → Tried log w place (i + 1) b
    tried-more place i s a b tried rising at (before, carries, covers) =
        record {
          sound = before.sound;
          origin = carries.carries 0 tried.origin;
          covers = λ j l. elim (dec_lt j i) [
            | yes h ↦ carries.carries (place j) (tried.covers j h)
            | no h ↦ let same : i ≡ j = omega arith in rw (← same, ← at) covers
          ];
          before = λ j l h. before-later s (place j) (omega (arith, at, rising j (omega arith) h)) b before;
        }

    pub starts-rise : (i j : ℕ) → i < j → j < length log → start_of log i ≤ start_of log j
    starts-rise i j h g = omega (arith, ordered-pair 0 log ordered i j h g)

    pub ends-rise : (i j : ℕ) → i < j → j < length log → from_end log w i ≤ from_end log w j
    ends-rise i j h g = omega (arith, ordered-pair 0 log ordered i j h g)

    module _ (some : 1 ≤ w) (room : w ≤ last_end log) (a b : Window)
        (starts : Tried log w (start_of log) (length log) a) (ends : Tried log w (from_end log w) (length log) b) (r : Best) (is : r ≡ better a.best b.best) where
      both : Sound log w r × Carries log w a.best r × Carries log w b.best r
      both = rw is (better-carries a.best b.best starts.sound ends.sound)

      place-covered : (u : ℕ) → Place log w u → Covers log w r u
      place-covered u (origin e) = rw e (both.1.carries 0 starts.origin)
      place-covered u (with-start l m e) =
          let (i, h, same) = place_of _ m in
          let here : start_of log i ≡ u = ap (λ (k : Line). k.start) same ∙ e in
          rw (← here) (both.1.carries (start_of log i) (starts.covers i h))
      place-covered u (with-end l m e) =
          let (i, h, same) = place_of _ m in
          let end : (nth log i).start + (nth log i).length ≡ u + w = ap (λ (k : Line). k.start + k.length) same ∙ e in
          let here : from_end log w i ≡ u = omega arith in
          rw (← here) (both.2.carries (from_end log w i) (ends.covers i h))

      place-best : BestPlace log w room r.first
      place-best = record {
        within = both.0.within;
        most = λ u p h. omega (arith, (place-covered u p).most h, both.0.counts);
        first = λ u p l. omega (arith, (place-covered u p).first (omega (arith, both.0.within)) l, both.0.counts);
      }

      -- The best is the busiest stretch.
      pub best-is : (r.count ≡ most_busy log w) × (r.first ≡ first_busiest log w)
      best-is =
          let busiest = best-busiest log w room some r.first place-best in (
            both.0.counts ∙ sym (busiest-most log w room r.first busiest),
            sym (busiest-first log w room r.first busiest),
          )
