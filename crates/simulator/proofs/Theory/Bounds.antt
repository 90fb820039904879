-- How great the numbers of a simulation get.
use Prim.Native.Nat.{ℕ, zero, suc, ◌+◌, ◌*◌, ◌/◌, ◌≤◌, ◌<◌}
use Rattle.std.specs.Prelude.{◌≡◌, List}
use Rattle.std.proofs.Common.{◌∙◌, mod-lt, get_or-set_other}
use Rattle.std.proofs.Math.Bool.{true}
use Rattle.std.proofs.Math.Logic.{inl, inr}
use native.Mathlib.Omega.{arith}
use Rattle.std.proofs.Math.Decide.{ℕ_discrete}
use Rattle.std.proofs.Math.ListN.{length, length-set}
use Rattle.std.proofs.Math.Seq.{get_or-set_same}
use Rattle.bus_model.specs.Frame.{row}
use Rattle.bus_model.specs.declared.Frame.{Frame}
use Rattle.table_checks.specs.Columns.{field, columns, is_identifier, identifier_column, kind_column, payload_column}
use Rattle.table_checks.specs.Frames.{priority_of, frame_at, frames_of}
use Rattle.table_checks.specs.Checks.{Loadable, Accepted}
use Rattle.table_checks.proofs.Laws.Accepted.{length-frames, frame_row, accepted-size, accepted-limits}
use Rattle.table_checks.proofs.Laws.Limits.{identified-cases}
use Rattle.table_checks.proofs.Laws.Lengths.{length-bounds}
use Rattle.bus_log.proofs.Theory.Table.{few-rows}
use Rattle.bus_log.specs.declared.Entry.{Entry}
use Rattle.bus_log.specs.Follow.{due_of}
use Rattle.generator.specs.Draw.{draw_from}
use Rattle.simulator.specs.declared.Engine.{Engine}
use Rattle.simulator.specs.Engine.{start_next, row_next, length_from, entry_next, moved_by, stepped, after}
use Rattle.simulator.proofs.Theory.Lowest.{lowest, lowest-within}
use Rattle.simulator.specs.Theory.Bounds.{Within}

-- a row of an accepted table
pub record Row (g : Frame) : Type 0 where
  pub length-min : 1 ≤ g.length
  pub length-max : g.length ≤ 400
  pub period-max : g.period ≤ 1000000
  pub offset-max : g.offset ≤ 1000000
  pub ranked : g.priority < 4294967296

-- a drawn length is one that the frame can have
pub length-drawn : (v largest : ℕ) → 1 ≤ largest → (1 ≤ length_from v largest) × (length_from v largest ≤ largest)
unfolding length_from
length-drawn v largest h = (omega arith, omega (arith, mod-lt v {m = largest} h))

module _ (ls : List (List ℕ)) (loadable : Loadable ls) (t : List ℕ) (accepted : Accepted t) where
  abbrev fs : List Frame
  fs = frames_of ls t

  pub some-rows : 0 < length (frames_of ls t)
  some-rows = let z = accepted-size t accepted in rw (length-frames ls t) (omega (arith, z.some, z.whole))

  pub row_within : (i : ℕ) → i < length (frames_of ls t) → Row (row (frames_of ls t) i)
  unfolding frame_at priority_of
  row_within i l =
      let h : i < length t / columns = rw (length-frames ls t) at l in
      let m = accepted-limits t accepted i h in
      let c = length-bounds ls loadable (field t i kind_column) (field t i payload_column) m.payload-max in
      rw (frame_row ls t i h) (record {
        length-min = omega (arith, c.0);
        length-max = c.1;
        period-max = m.period-max;
        offset-max = m.offset-max;
        ranked = ranked (field t i kind_column) (field t i identifier_column) m.identified;
      })
    where
      ranked : (k n : ℕ) → is_identifier k n ≡ true → priority_of k n < 4294967296
      ranked k n h = elim (identified-cases k n h) [ inl (e, l) ↦ rw e (omega arith) | inr (e, l) ↦ rw e (omega arith) ]

  pub row_inside : (s : Engine) → row_next (frames_of ls t) s < length (frames_of ls t)
  unfolding row_next
  row_inside s = (lowest _ _ some-rows).below

  module _ (s : Engine) (m : ℕ) (w : Within s m) where
    pub start-within : start_next (length (frames_of ls t)) s ≤ m
    unfolding start_next
    start-within = omega (arith, w.free, w.due _ (lowest-within (due_of s.due) (length (frames_of ls t)) 64 (few-rows ls t accepted) (omega arith)))

    -- What the next transmission has.
    pub entry-within : (v : ℕ) → let e : Entry = entry_next (frames_of ls t) s v in
        (e.frame < length (frames_of ls t)) × (e.start ≤ m) × (e.release ≤ m) × (1 ≤ e.length) × (e.length ≤ 400)
    unfolding entry_next
    entry-within v =
        let i = row_inside s in
        let g = row_within _ i in
        let d = length-drawn v _ g.length-min in
        (i, start-within, w.due _ (omega (arith, i, few-rows ls t accepted)), d.0, omega (arith, d.1, g.length-max))

    pub moved-within : (v : ℕ) (e : Entry) → e.frame < length (frames_of ls t) → e.start ≤ m → e.release ≤ m → e.length ≤ 400
        → Within (moved_by (frames_of ls t) s v e) (m + 1000000)
    unfolding moved_by
    moved-within v e i st re le = record {
      size = length-set s.due _ _ ∙ w.size;
      free = omega arith;
      due = λ j l. elim (ℕ_discrete j e.frame) [
        | yes q ↦ rw (q, get_or-set_same s.due e.frame (e.release + (row (frames_of ls t) e.frame).period) 0 (omega (arith, w.size, few-rows ls t accepted))) (omega (arith, (row_within _ i).period-max))
        | no ne ↦ rw (get_or-set_other s.due e.frame j (e.release + (row (frames_of ls t) e.frame).period) 0 ne) (omega (arith, w.due j l))
      ];
    }

    pub stepped_within : Within (stepped (frames_of ls t) s) (m + 1000000)
    unfolding stepped
    stepped_within =
        let v = draw_from s.drawn in
        let (a, b, c, d, e) = entry-within v in
        moved-within v (entry_next (frames_of ls t) s v) a b c e

  pub after-within : (s : Engine) (m n : ℕ) → Within s m → Within (after (frames_of ls t) s n) (m + 1000000 * n)
  unfolding after
  after-within s m zero w = let z : m + 1000000 * 0 ≡ m = omega arith in rw z w
  after-within s m (suc n) w = let z : m + 1000000 * suc n ≡ m + 1000000 * n + 1000000 = omega arith in rw z (stepped_within _ _ (after-within s m n w))
