-- A turn of the loop that writes a log.
use Rattle.std.specs.Prelude.{ℕ, ◌+◌, ◌*◌, ◌≤◌, ◌<◌, ◌≡◌, refl, List, [], length, set}
use Rattle.std.proofs.Common.{◌∙◌, append_assoc, arith}
use Rattle.std.proofs.Math.Numerals.{add-one}
use borrow.Rule.Slice.PartMut.{mid_of, put_mid}
use Rattle.arith.specs.Laws.Overwriting.{begun-none, begun-filled, begun-element, begun_all}
use Rattle.decimal.specs.Decimal.{write_column}
use Rattle.decimal.specs.Laws.{length-write}
use Rattle.table_checks.specs.Columns.{columns}
use Rattle.table_checks.specs.Frames.{frames_of}
use Rattle.table_checks.specs.Checks.{Loadable, Accepted}
use Rattle.table_checks.proofs.Laws.Accepted.{length-frames, accepted-size, accepted-limits}
use Rattle.table_checks.proofs.Laws.Limits.{identified-max}
use Rattle.bus_log.specs.declared.Entry.{Entry}
use Rattle.bus_log.specs.declared.Line.{Line}
use Rattle.generator.specs.Draw.{draw_from}
use Rattle.simulator.specs.declared.Engine.{Engine}
use Rattle.simulator.specs.Engine.{entry_next, moved_by, stepped, after, entry_at}
use Rattle.simulator.specs.Starts.{engine_of}
use Rattle.simulator.specs.Text.{line_of, line_text}
use Rattle.simulator.proofs.Theory.First.{engine-within}
use Rattle.simulator.specs.Theory.Bounds.{Within}
use Rattle.simulator.proofs.Theory.Bounds.{entry-within, after-within}

-- what an entry has that is written
pub record Small (t : List ℕ) (e : Entry) : Type 0 where
  pub inside : columns * e.frame + columns ≤ length t
  pub row : e.frame < 64
  pub start : e.start ≤ 1601000000
  pub release : e.release ≤ 1601000000
  pub length-min : 1 ≤ e.length
  pub length-max : e.length ≤ 400

module _ (ls : List (List ℕ)) (loadable : Loadable ls) (t : List ℕ) (accepted : Accepted t) (first s : Engine) (i v : ℕ) (e : Entry) (is : s ≡ after (frames_of ls t) first i) (drawn : v ≡ draw_from s.drawn)
    (next : e ≡ entry_next (frames_of ls t) s v)
  where
    pub turn-entry : e ≡ entry_at (frames_of ls t) first i
    unfolding entry_at
    turn-entry = next ∙ rw (drawn, is)

    pub turn_moved : (r : Engine) → r ≡ moved_by (frames_of ls t) s v e → r ≡ after (frames_of ls t) first (i + 1)
    unfolding after stepped
    turn_moved r m = m ∙ rw (next, drawn, is, add-one i)

    pub turn_small : Within first 2000000 → i < 1600 → Small t e
    turn_small w l =
        let (a, b, c, d, f) = entry-within ls loadable t accepted (after (frames_of ls t) first i) (2000000 + 1000000 * i) (after-within ls loadable t accepted first 2000000 i w) v in
        let z = accepted-size t accepted in
        rw (next, is) (record {
          inside = omega (arith, a, length-frames ls t);
          row = omega (arith, a, length-frames ls t, z.most);
          start = omega (arith, b);
          release = omega (arith, c);
          length-min = d;
          length-max = f;
        })

-- Five columns and a line feed are a line.
pub line-written : (l : Line) (d q₁ q₂ q₃ q₄ q₅ : List ℕ) → length d ≡ 40
    → q₁ ≡ write_column (length (mid_of 0 11 d)) l.start
    → q₂ ≡ write_column (length (mid_of 11 10 (put_mid 0 11 d q₁))) l.identifier
    → q₃ ≡ write_column (length (mid_of 21 3 (put_mid 11 10 (put_mid 0 11 d q₁) q₂))) l.kind
    → q₄ ≡ write_column (length (mid_of 24 11 (put_mid 21 3 (put_mid 11 10 (put_mid 0 11 d q₁) q₂) q₃))) l.release
    → q₅ ≡ write_column (length (mid_of 35 4 (put_mid 24 11 (put_mid 21 3 (put_mid 11 10 (put_mid 0 11 d q₁) q₂) q₃) q₄))) l.length
    → set (put_mid 35 4 (put_mid 24 11 (put_mid 21 3 (put_mid 11 10 (put_mid 0 11 d q₁) q₂) q₃) q₄) q₅) 39 10 ≡ line_text l
unfolding line_text
line-written l d q₁ q₂ q₃ q₄ q₅ size e₁ e₂ e₃ e₄ e₅ =
    let fill : ℕ → ℕ → List ℕ = λ n w. write_column w n in
    let b₁ = begun-filled [] d d 0 (begun-none d) (fill l.start) (λ w. length-write w _) q₁ 11 (omega arith) e₁ in
    let b₂ = begun-filled _ d _ 11 b₁ (fill l.identifier) (λ w. length-write w _) q₂ 10 (omega arith) e₂ in
    let b₃ = begun-filled _ d _ 21 b₂ (fill l.kind) (λ w. length-write w _) q₃ 3 (omega arith) e₃ in
    let b₄ = begun-filled _ d _ 24 b₃ (fill l.release) (λ w. length-write w _) q₄ 11 (omega arith) e₄ in
    let b₅ = begun-filled _ d _ 35 b₄ (fill l.length) (λ w. length-write w _) q₅ 4 (omega arith) e₅ in
    begun_all _ d _ 40 (begun-element _ d _ 39 b₅ 10 (omega arith)) size ∙ simp append_assoc

-- ---- what a line holds fits its columns

-- a start and a queueing have ten digits, in columns 11 wide; an identifier 9 in 10, a kind 2 in 3, a length 3 in 4
pub record Fits (l : Line) : Type 0 where
  pub start : l.start ≤ 1601000000
  pub identifier : l.identifier ≤ 536870911
  pub kind : l.kind ≤ 29
  pub release : l.release ≤ 1601000000
  pub length-min : 1 ≤ l.length
  pub length-max : l.length ≤ 400

-- Line i of a log of up to 1600 lines does, where lines count from 0.
pub numbers_fit : (ls : List (List ℕ)) → Loadable ls → (t : List ℕ) → Accepted t → (seed i : ℕ) → i < 1600
    → Fits (line_of t (entry_at (frames_of ls t) (engine_of (frames_of ls t) seed) i))
unfolding entry_at line_of
numbers_fit ls loadable t accepted seed i l =
    let first : Engine = engine_of (frames_of ls t) seed in
    let s : Engine = after (frames_of ls t) first i in
    let e : Entry = entry_next (frames_of ls t) s (draw_from s.drawn) in
    let z = turn_small ls loadable t accepted first s i (draw_from s.drawn) e refl refl refl (engine-within ls loadable t accepted seed) l in
    let m = identified-max _ _ (accepted-limits t accepted e.frame (omega (arith, z.inside))).identified in
    record { start = z.start; identifier = m.1; kind = m.0; release = z.release; length-min = z.length-min; length-max = z.length-max }
