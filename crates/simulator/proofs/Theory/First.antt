-- The drawn starts are below their hyperperiods, and so the first releases are small.
use Prim.Native.Nat.{ℕ, zero, suc, ◌+◌, ◌%◌, ◌≤◌, ◌<◌}
use Rattle.std.proofs.Common.{◌∙◌, arith}
use Rattle.std.specs.Prelude.{List, [], ◌∷◌, length, get_or, set}
use Rattle.std.proofs.Math.Decide.{dec_lt}
use Rattle.std.proofs.Math.Nat.{mod-lt}
use Rattle.std.proofs.Math.Dec.{eqb}
use Rattle.std.proofs.Math.ListN.{length-map}
use Rattle.arith.specs.Lists.{range}
use Rattle.arith.specs.Laws.Tests.{by-test}
use Rattle.arith.specs.Laws.Members.{length-range, get_d-table}
use Rattle.bus_model.specs.Frame.{row}
use Rattle.bus_model.specs.Pattern.{of_group, hyperperiod}
use Rattle.bus_model.proofs.Theory.Hyperperiod.{common-none, hyper-le}
use Rattle.table_checks.specs.Frames.{frames_of}
use Rattle.table_checks.specs.Checks.{Loadable, Accepted}
use Rattle.table_checks.proofs.Laws.Accepted.{length-frames, no_row, accepted-pattern, accepted-valid}
use Rattle.bus_log.proofs.Theory.Verdict.{get_d_replicate}
use Rattle.generator.specs.Draw.{draw_from}
use Rattle.simulator.specs.declared.Starts.{Starts}
use Rattle.simulator.specs.Starts.{has_frames, start_drawn, starts_drawn, first_due, first_of, engine_of}
use Rattle.simulator.specs.Theory.Bounds.{Within}
use Rattle.simulator.proofs.Theory.Bounds.{row_within}
use Rattle.simulator.specs.Theory.First.{Early}

-- A list stays below a limit.
set-most : (l : List ℕ) (i x j m : ℕ) → x ≤ m → get_or l j 0 ≤ m → get_or (set l i x) j 0 ≤ m
set-most [] i x j m h k = k
set-most (y ∷ ys) zero x zero m h k = h
set-most (y ∷ ys) zero x (suc j) m h k = k
set-most (y ∷ ys) (suc i) x zero m h k = k
set-most (y ∷ ys) (suc i) x (suc j) m h k = set-most ys i x j m h k

module _ (ls : List (List ℕ)) (loadable : Loadable ls) (t : List ℕ) (accepted : Accepted t) where
  frame-periods : (i : ℕ) → i < length (frames_of ls t) → 1 ≤ (row (frames_of ls t) i).period
  frame-periods i l = ((accepted-valid t accepted ls loadable).frame i l).period

  pub hyper-some : (j : ℕ) → 0 < hyperperiod (of_group (frames_of ls t) j)
  unfolding of_group
  hyper-some j = hyper-le (frames_of ls t) j frame-periods (length (frames_of ls t)) 1 (common-none (frames_of ls t) (λ g. eqb g.group j))

  start-early : (d : Starts) (j : ℕ) → 1 ≤ j → j ≤ 16 → Early d → Early (start_drawn (frames_of ls t) d j)
  unfolding Early start_drawn
  start-early d j low high e i =
      by-test (has_frames (frames_of ls t) j)
      (λ y. rw y (set-most d.starts j (draw_from d.drawn % hyperperiod (of_group (frames_of ls t) j)) i 1000000
      (omega (arith, mod-lt (draw_from d.drawn) {m = hyperperiod (of_group (frames_of ls t) j)} (hyper-some j), (accepted-pattern t accepted ls j low high).0)) (e i)))
      (λ n. rw n (e i))

  pub starts-early : (seed n : ℕ) → n ≤ 16 → Early (starts_drawn (frames_of ls t) seed n)
  unfolding Early starts_drawn
  starts-early seed zero h = λ j. omega (arith, get_d_replicate {A = ℕ} 17 j 0)
  starts-early seed (suc n) h = start-early (starts_drawn (frames_of ls t) seed n) (suc n) (omega arith) h (starts-early seed n (omega arith))

  offset-small : (i : ℕ) → (row (frames_of ls t) i).offset ≤ 1000000
  offset-small i =
      elim (dec_lt i (length (frames_of ls t))) [
        | yes l ↦ (row_within ls loadable t accepted i l).offset-max
        | no l ↦ rw (no_row ls t i (omega (arith, length-frames ls t))) (omega arith)
      ]

  pub first-within : (d : Starts) → Early d → Within (first_of (frames_of ls t) d) 2000000
  unfolding first_of first_due Early
  first-within d e = record {
    size = length-map (range 0 64) (first_due (frames_of ls t) d) ∙ length-range 0 64;
    free = omega arith;
    due = λ i l. rw (get_d-table (first_due (frames_of ls t) d) 0 64 i 0 l) (omega (arith, e (row (frames_of ls t) (0 + i)).group, offset-small (0 + i)));
  }

  pub engine-within : (seed : ℕ) → Within (engine_of (frames_of ls t) seed) 2000000
  unfolding engine_of
  engine-within seed = first-within _ (starts-early seed 16 (omega arith))
