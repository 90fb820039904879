-- The check of logs (request 10) accepts the text of every simulated log (request 12).
use Prim.Native.Nat.{ℕ, zero, suc, ◌+◌, ◌-◌, ◌*◌, ◌/◌, ◌%◌, ◌≤◌, ◌<◌}
use Rattle.std.specs.Prelude.{◌≡◌, false, drop, None, Ok}
use Rattle.std.proofs.Math.Path.{refl, subst}
use mathlib.Core.List.{List, ◌∷◌, ◌++◌, map}
use native.Mathlib.Omega.{arith}
use Rattle.std.proofs.Common.{add-one}
use borrow.Author.Tests.{le-ltb, eq-eqb}
use Rattle.std.proofs.Math.ListN.{length}
use Rattle.arith.specs.Lists.{range}
use Rattle.arith.specs.Laws.Least.{least-none}
use Rattle.arith.specs.Laws.Lines.{length-lines, lines_at}
use Rattle.table_checks.specs.Frames.{frames_of}
use Rattle.table_checks.specs.Checks.{Loadable, Accepted, loaded_check}
use Rattle.bus_log.specs.declared.Line.{Line}
use Rattle.bus_log.specs.Log.{shown_starts}
use Rattle.bus_log.specs.Follow.{follow_log}
use Rattle.bus_log.proofs.Theory.Table.{accepted-followed}
use Rattle.log_reader.specs.Text.{line_at, read_at}
use Rattle.log_check.specs.Check.{is_missized, is_broken, first_broken, lines_of, accepted_with, followed_answer, line_answer, text_answer, checked_answer, log_answer}
use Rattle.simulator.specs.declared.Engine.{Engine}
use Rattle.simulator.specs.Engine.{entry_at, entries_from}
use Rattle.simulator.specs.Starts.{engine_of}
use Rattle.simulator.specs.Text.{line_of, line_text, log_text, lines_from}
use Rattle.simulator.specs.Simulate.{log_of, text_of}
use Rattle.simulator.proofs.Theory.Layout.{log-lines}
use Rattle.simulator.proofs.Theory.Turns.{Fits, numbers_fit}
use Rattle.simulator.proofs.Theory.Follows.{simulated-accepted}
use Rattle.simulator.proofs.Theory.Read.{line_read, read-line}

module _ (ls : List (List ℕ)) (loadable : Loadable ls) (t : List ℕ) (accepted : Accepted t) (seed n : ℕ) (most : n ≤ 1600) where
  abbrev first : Engine
  first = engine_of (frames_of ls t) seed

  abbrev text : List ℕ
  text = log_text (lines_from (frames_of ls t) t first n 0)

  -- line i
  abbrev line : ℕ → Line
  line i = line_of t (entry_at (frames_of ls t) first i)

  line-fits : (i : ℕ) → i < n → Fits (line i)
  line-fits i l = numbers_fit ls loadable t accepted seed i (omega arith)

  long : length text ≡ 40 * n
  long = length-lines (log-lines (frames_of ls t) t first) n 0

  stands : (i : ℕ) → i < n → drop (40 * i) text ≡ line_text (line i) ++ log_text (lines_from (frames_of ls t) t first (n - (i + 1)) (i + 1))
  stands i l = lines_at (log-lines (frames_of ls t) t first) n i l

  inside : (i : ℕ) → i < n → 40 * i + 40 ≤ length text
  inside i l = omega (arith, long)

  is-read : (i : ℕ) → i < n → read_at text (40 * i) ≡ Ok (line i)
  is-read i l = read-line (line i) (line-fits i l) text _ (40 * i) (stands i l) (inside i l)

  -- No line is broken.
  none-broken : first_broken text ≡ None
  unfolding first_broken is_broken
  none-broken = least-none (is_broken text) (length text / 40) 0 (λ i low high y. let e : read_at text (40 * i) ≡ Ok (line i) = is-read i (omega (arith, long)) in rw e at y)

  -- The lines are those of the log.
  lines_same : (m i : ℕ) → i + m ≡ n → map (λ k. line_at text (40 * k)) (range i m) ≡ map (line_of t) (entries_from (frames_of ls t) first m i)
  unfolding range entries_from
  lines_same zero i h = refl
  lines_same (suc m) i h =
      let l : i < n = omega arith in
      let one : line_at text (40 * i) ≡ line i = line_read (line i) (line-fits i l) text _ (40 * i) (stands i l) in
      let rest : map (λ k. line_at text (40 * k)) (range (i + 1) m) ≡ map (line_of t) (entries_from (frames_of ls t) first m (i + 1)) = lines_same m (i + 1) (omega arith) in
      let rest' : map (λ k. line_at text (40 * k)) (range (suc i) m) ≡ map (line_of t) (entries_from (frames_of ls t) first m (i + 1))
      = subst (λ (j : ℕ). map (λ k. line_at text (40 * k)) (range j m) ≡ map (line_of t) (entries_from (frames_of ls t) first m (i + 1))) (add-one i) rest in
      cons one rest'
    where
      cons : {x y : Line} {xs ys : List Line} → x ≡ y → xs ≡ ys → x ∷ xs ≡ y ∷ ys
      cons p q = cc

  pub text-lines : lines_of text ≡ log_of ls t seed n
  unfolding lines_of log_of lines_from
  text-lines = let z : length text / 40 ≡ n = omega (arith, long) in rw z (lines_same n 0 (omega arith))

  sized : is_missized (length text) ≡ false
  unfolding is_missized
  sized =
      let a : length text % 40 ≡ 0 = omega (arith, long) in
      rw (eq-eqb (length text % 40) 0 a, le-ltb 64000 (length text) (omega (arith, long)))

  followed : (follow_log (frames_of ls t) t (lines_of text)).place ≡ 0
  followed = rw text-lines ((accepted-followed ls t accepted loadable (log_of ls t seed n)).0 (simulated-accepted ls loadable t accepted seed n))

  answered : text_answer ls t text ≡ accepted_with (shown_starts (frames_of ls t) t (log_of ls t seed n))
  unfolding text_answer line_answer followed_answer
  answered = rw (sized, none-broken, eq-eqb _ 0 followed, text-lines)

  checked : loaded_check ls t ≡ Ok tt
  unfolding loaded_check
  checked = rw (loadable, accepted)

  -- The check of logs accepts what is written, and shows the starts of its groups.
  pub simulated-checked : log_answer ls t (text_of ls t seed n) ≡ accepted_with (shown_starts (frames_of ls t) t (log_of ls t seed n))
  unfolding log_answer checked_answer text_of log_of
  simulated-checked = rw checked answered
