-- What is simulated follows the bus rule: every log is accepted, with the drawn starts.
use Prim.Native.Nat.{ℕ, zero, suc, ◌+◌, ◌≤◌, ◌<◌, max}
use Rattle.std.specs.Prelude.{◌≡◌, length}
use Rattle.std.proofs.Math.Path.{refl, sym, subst}
use Rattle.std.proofs.Common.{◌∙◌, add-one}
use mathlib.Core.List.{List, [], ◌∷◌, map}
use native.Mathlib.Omega.{arith}
use Rattle.std.proofs.Math.Nat.{zero-add}
use Rattle.std.proofs.Math.Decide.{ℕ_discrete, dec_le}
use borrow.Author.Tests.{le-leb, lt-leb, eq-eqb, ne_eqb}
use Rattle.std.proofs.Math.ListN.{get_or, length-set}
use Rattle.std.proofs.Math.Seq.{get_or-set_same, get_or-set_other}
use Rattle.arith.specs.Laws.Members.{get_d-table}
use Rattle.bus_model.specs.Frame.{row}
use Rattle.bus_model.specs.Release.{release}
use Rattle.bus_model.specs.Bus.{one_more, Waiting}
use Rattle.table_checks.specs.Frames.{frames_of}
use Rattle.table_checks.specs.Checks.{Loadable, Accepted}
use Rattle.bus_log.specs.declared.Entry.{Entry}
use Rattle.bus_log.specs.Log.{row_of, IsBeginning, AcceptedLog}
use Rattle.bus_log.specs.Follow.{entry_of, entries_of, start_of, due_of}
use Rattle.bus_log.specs.Beginning.{Sends, Follows}
use Rattle.bus_log.proofs.Theory.Clear.{next_of}
use Rattle.bus_log.proofs.Theory.Table.{few-rows, row-names}
use Rattle.bus_log.proofs.Theory.Entries.{named-row, beginning-entries}
use Rattle.generator.specs.Draw.{draw_from}
use Rattle.simulator.specs.declared.Engine.{Engine}
use Rattle.simulator.specs.declared.Starts.{Starts}
use Rattle.simulator.specs.Engine.{lowest_of, start_next, rank_at, row_next, entry_next, moved_by, stepped, after, entry_at, entries_from}
use Rattle.simulator.specs.Starts.{starts_drawn, first_due, first_of, engine_of}
use Rattle.simulator.specs.Text.{line_of, lines_from}
use Rattle.simulator.specs.Simulate.{log_of}
use Rattle.simulator.proofs.Theory.Lowest.{lowest, IsLowest}
use Rattle.simulator.proofs.Theory.Bounds.{some-rows, row_within, row_inside, length-drawn}
use Rattle.simulator.proofs.Theory.First.{first-within, starts-early}

module _ (ls : List (List ℕ)) (loadable : Loadable ls) (t : List ℕ) (accepted : Accepted t) where
  -- ---- the row that is sent waits, and is the best-ranked of those that wait

  module _ (s : Engine) where
    abbrev start : ℕ
    start = start_next (length (frames_of ls t)) s

    soonest : IsLowest (due_of s.due) (length (frames_of ls t)) (lowest_of (due_of s.due) (length (frames_of ls t)))
    soonest = lowest (due_of s.due) (length (frames_of ls t)) (some-rows ls loadable t accepted)

    chosen : IsLowest (rank_at (frames_of ls t) s.due start) (length (frames_of ls t)) (row_next (frames_of ls t) s)
    unfolding row_next
    chosen = lowest (rank_at (frames_of ls t) s.due start) (length (frames_of ls t)) (some-rows ls loadable t accepted)

    -- No row is released before.
    pub not-before : (i : ℕ) → i < length (frames_of ls t) → start ≤ max s.free (due_of s.due i)
    unfolding start_next
    not-before i l = omega (arith, soonest.least i l)

    rank-waiting : (i : ℕ) → due_of s.due i ≤ start → rank_at (frames_of ls t) s.due start i ≡ (row (frames_of ls t) i).priority
    unfolding rank_at
    rank-waiting i h = rw (le-leb (due_of s.due i) start h)

    soonest-waits : due_of s.due (lowest_of (due_of s.due) (length (frames_of ls t))) ≤ start
    unfolding start_next
    soonest-waits = omega arith

    -- The row that is sent waits.
    pub sent-waits : due_of s.due (row_next (frames_of ls t) s) ≤ start
    unfolding rank_at
    sent-waits =
        let k = row_next (frames_of ls t) s in
        let m = lowest_of (due_of s.due) (length (frames_of ls t)) in
        elim (dec_le (due_of s.due k) start) [
          | yes h ↦ h
          | no h ↦
              let none : rank_at (frames_of ls t) s.due start k ≡ 4294967296 = rw (lt-leb (due_of s.due k) start (omega arith)) in
              absurd (omega (arith, none, chosen.least m soonest.below, rank-waiting m soonest-waits, (row_within ls loadable t accepted m soonest.below).ranked))
        ]

    pub sent-best : (i : ℕ) → i < length (frames_of ls t) → due_of s.due i ≤ start → (row (frames_of ls t) (row_next (frames_of ls t) s)).priority ≤ (row (frames_of ls t) i).priority
    sent-best i l h = omega (arith, chosen.least i l, rank-waiting i h, rank-waiting (row_next (frames_of ls t) s) sent-waits)

  -- ---- the engine and the bus rule, in given starts

  module _ (starts : ℕ → ℕ) where
    -- the engine has the next releases
    pub record Holds (s : Engine) (sent : ℕ → ℕ) : Type 0 where
      pub size : length s.due ≡ 64
      pub next : (i : ℕ) → i < length (frames_of ls t) → release starts (row (frames_of ls t) i) (sent i) ≡ due_of s.due i

    module _ (s : Engine) (sent : ℕ → ℕ) (holds : Holds s sent) (v : ℕ) where
      abbrev e : Entry
      e = entry_next (frames_of ls t) s v

      -- The bus rule allows the next transmission.
      pub next-sends : Sends (frames_of ls t) starts sent s.free (entry_next (frames_of ls t) s v)
      unfolding entry_next start_next
      next-sends =
          let inside = row_inside ls loadable t accepted s in
          let drawn = length-drawn v _ (row_within ls loadable t accepted _ inside).length-min in
          let own = holds.next _ inside in (
            next_of (frames_of ls t) starts sent s.free (entry_next (frames_of ls t) s v)
                (record { inside = inside; positive = drawn.0; fits = drawn.1; after = omega arith; queued = sent-waits s })
                own
                (λ i l. record {
                  idle = omega (arith, holds.next i l, not-before s i l);
                  best = λ w. sent-best s i l (omega (arith, holds.next i l));
                }),
            own,
          )

      pub holds_after : Holds (moved_by (frames_of ls t) s v (entry_next (frames_of ls t) s v)) (one_more sent (row_next (frames_of ls t) s))
      unfolding moved_by entry_next one_more release
      holds_after =
          let k = row_next (frames_of ls t) s in
          let inside = row_inside ls loadable t accepted s in
          let d : ℕ = get_or s.due k 0 + (row (frames_of ls t) k).period in
          record {
            size = length-set s.due k d ∙ holds.size;
            next = λ i l. elim (ℕ_discrete i k) [
              | yes q ↦ rw (q, eq-eqb k k refl, get_or-set_same s.due k d 0 (omega (arith, holds.size, few-rows ls t accepted, inside))) (omega (arith, holds.next k inside))
              | no ne ↦ rw (ne_eqb k i (λ q. ne (sym q)), get_or-set_other s.due k i d 0 ne) (holds.next i l)
            ];
          }

    -- ---- all of them

    pub follows : (first : Engine) (n i : ℕ) (sent : ℕ → ℕ) → Holds (after (frames_of ls t) first i) sent
        → Follows (frames_of ls t) starts sent (after (frames_of ls t) first i).free (entries_from (frames_of ls t) first n i)
    unfolding Follows entries_from entry_at entry_next row_next moved_by
    follows first zero i sent holds = tt
    follows first (suc n) i sent holds =
        let s = after (frames_of ls t) first i in
        let v = draw_from s.drawn in
        let one : after (frames_of ls t) first (i + 1) ≡ moved_by (frames_of ls t) s v (entry_next (frames_of ls t) s v) = unfold after stepped in rw (add-one i) in (
          next-sends s sent holds v,
          subst (λ (p : Engine). Holds p (one_more sent (row_next (frames_of ls t) s)) → Follows (frames_of ls t) starts (one_more sent (row_next (frames_of ls t) s)) p.free (entries_from (frames_of ls t) first n (i + 1))) one
              (follows first n (i + 1) (one_more sent (row_next (frames_of ls t) s))) (holds_after s sent holds v),
        )

    -- ---- entries that follow the bus rule, as lines, are a beginning

    -- The entries of their lines are the same.
    lines-entries : (sent : ℕ → ℕ) (free : ℕ) (es : List Entry) → Follows (frames_of ls t) starts sent free es → entries_of t (map (line_of t) es) ≡ es
    unfolding Follows Waiting line_of entry_of
    lines-entries sent free [] h = refl
    lines-entries sent free (x ∷ xs) (sends, h) =
        let row_is : x.frame ≡ row_of t (line_of t x) = named-row (frames_of ls t) t (row-names ls t accepted loadable) (line_of t x) x.frame sends.0.waiting.0 refl refl in
        rw (← row_is, lines-entries (one_more sent x.frame) (x.start + x.length) xs h)

    pub entries-beginning : (es : List Entry) → Follows (frames_of ls t) starts (λ i. 0) 0 es → IsBeginning (frames_of ls t) t starts (map (line_of t) es)
    entries-beginning es h = (beginning-entries (frames_of ls t) t (row-names ls t accepted loadable) starts (map (line_of t) es)).1 (rw (lines-entries (λ i. 0) 0 es h) h)

  -- ---- from drawn starts

  pub first_holds : (d : Starts) → length (first_of (frames_of ls t) d).due ≡ 64 → Holds (start_of d.starts) (first_of (frames_of ls t) d) (λ i. 0)
  unfolding first_of first_due release
  first_holds d size = record {
    size = size;
    next = λ i l. let l64 : i < 64 = omega (arith, few-rows ls t accepted) in sym (rw (get_d-table (first_due (frames_of ls t) d) 0 64 i 0 l64, zero-add i) (omega arith));
  }

  -- Every log that is written is a beginning with the drawn starts,
  pub simulated-beginning : (seed n : ℕ) → IsBeginning (frames_of ls t) t (start_of (starts_drawn (frames_of ls t) seed 16).starts) (log_of ls t seed n)
  unfolding log_of lines_from engine_of
  simulated-beginning seed n =
      let d = starts_drawn (frames_of ls t) seed 16 in
      let first = first_of (frames_of ls t) d in
      let w = first-within ls loadable t accepted d (starts-early ls loadable t accepted seed 16 (omega arith)) in
      entries-beginning (start_of d.starts) (entries_from (frames_of ls t) first n 0)
      (unfold after first_of in follows (start_of d.starts) first n 0 (λ i. 0) (first_holds d w.size))

  -- and so it is accepted.
  pub simulated-accepted : (seed n : ℕ) → AcceptedLog (frames_of ls t) t (log_of ls t seed n)
  unfolding AcceptedLog
  simulated-accepted seed n = (start_of (starts_drawn (frames_of ls t) seed 16).starts, simulated-beginning seed n)
