-- What every answer says holds of the notation and of the bus rule.
use Rattle.std.specs.Prelude.{ℕ, ◌+◌, ◌*◌, ◌/◌, ◌%◌, ◌≤◌, ◌<◌, List, map, eqb, Option, Some, None, Result, Ok, Err}
use Rattle.std.proofs.Math.Path.{◌≡◌, refl, ap}
use Rattle.std.proofs.Common.{sym, subst, ◌∙◌}
use Rattle.std.proofs.Math.Bool.{true, false}
use Rattle.std.proofs.Math.Logic.{inl, inr}
use Rattle.std.proofs.Math.Nat.{zero-add}
use native.Mathlib.Omega.{arith}
use borrow.Author.Tests.{eqb-true, eqb-false, eq-eqb, le-ltb}
use Rattle.std.proofs.Math.ListN.{length, length-map}
use Rattle.table_checks.specs.declared.Refusal.{Refusal}
use Rattle.arith.specs.Lists.{range}
use Rattle.arith.specs.Laws.Tests.{by-test}
use Rattle.arith.specs.Laws.Least.{least_at, least-le}
use Rattle.arith.specs.Laws.Members.{length-range, get_d-table, map_same}
use Rattle.table_checks.specs.Frames.{frames_of}
use Rattle.table_checks.specs.Checks.{Loadable, Accepted}
use Rattle.bus_log.specs.declared.Line.{Line}
use Rattle.bus_log.specs.declared.Progress.{Progress}
use Rattle.bus_log.specs.Log.{shown_starts}
use Rattle.bus_log.specs.Follow.{Followed, follow_log, start_shown}
use Rattle.bus_log.proofs.Theory.Step.{of_T}
use Rattle.bus_log.proofs.Theory.Table.{followed-shortest, followed-shown, shown-known}
use Rattle.log_reader.specs.declared.Unread.{Unread}
use Rattle.log_reader.specs.Text.{Stands, line_at, read_at}
use Rattle.log_reader.specs.Laws.{read-stands, stands_read, read-line}
use Rattle.log_check.specs.declared.Refusal.{Refusal as LogRefusal}
use Rattle.log_check.specs.Check.{is_missized, is_broken, first_broken, lines_of, followed_answer, line_answer, text_answer, checked_answer}
use Rattle.log_check.specs.Verdict.{Sized, Holds, FirstBroken, Refuses, Means}
use Rattle.log_check.specs.Laws.Loop.{sized, whole-line}

-- ---- the length

pub well-sized : (size : ℕ) → is_missized size ≡ false → Sized size
unfolding is_missized
well-sized size f =
    by-test (eqb (size % 40) 0)
    (λ t. (eqb-true _ _ t, sized size f))
    (λ n. let z : true ≡ false = rw n at f in let y : ◌≡◌ {A = ℕ} 0 1 = cc in absurd (omega arith))

not-sized : (size : ℕ) → is_missized size ≡ true → Sized size → ⊥
unfolding is_missized
not-sized size t (whole, most) =
    let z : false ≡ true = rw (eq-eqb (size % 40) 0 whole, le-ltb 64000 size most) at t in
    let y : ◌≡◌ {A = ℕ} 0 1 = cc in
    omega arith

module _ (text : List ℕ) where
  -- ---- a line

  -- A line that is not broken stands there,
  line_read : (i : ℕ) → is_broken text i ≡ false → (l : Line) × (read_at text (40 * i) ≡ Ok l)
  unfolding is_broken
  line_read i f = go (read_at text (40 * i)) refl
    where
      go : (r : Result Line Unread) → read_at text (40 * i) ≡ r → (l : Line) × (read_at text (40 * i) ≡ Ok l)
      go (Ok l) e = (l, e)
      go (Err _) e = let z : true ≡ false = rw e at f in let y : ◌≡◌ {A = ℕ} 0 1 = cc in absurd (omega arith)

  pub line-stands : (i : ℕ) → is_broken text i ≡ false → Stands text (40 * i) (line_at text (40 * i))
  line-stands i f =
      let (l, e) = line_read i f in
      subst (Stands text (40 * i)) (read-line text (40 * i) l e).0 (read-stands text (40 * i) l e)

  -- and at one that is broken no line stands.
  broken-line : (i : ℕ) (l : Line) → is_broken text i ≡ true → Stands text (40 * i) l → ⊥
  unfolding is_broken
  broken-line i l t s =
      let z : false ≡ true = rw (stands_read text (40 * i) l s) at t in
      let y : ◌≡◌ {A = ℕ} 0 1 = cc in
      omega arith

  -- ---- all lines

  pub lines-count : length (lines_of text) ≡ length text / 40
  unfolding lines_of
  lines-count = length-map (range 0 (length text / 40)) _ ∙ length-range 0 (length text / 40)

  pub all_hold : is_missized (length text) ≡ false → first_broken text ≡ None → Holds text (lines_of text)
  unfolding lines_of
  all_hold f none =
      let count = lines-count in
      record {
        sized = well-sized (length text) f;
        count = count;
        stands = λ i l h.
            let h' : i < length text / 40 = rw count at h in
            rw (get_d-table (λ (i : ℕ). line_at text (40 * i)) 0 (length text / 40) i l h', zero-add i) (line-stands i (whole-line text none i h'));
      }

  first-broken : is_missized (length text) ≡ false → (i : ℕ) → first_broken text ≡ Some i → FirstBroken text (i + 1)
  unfolding first_broken
  first-broken f i e =
      let (low, high, t) = least_at (is_broken text) (length text / 40) 0 i e in
      record {
        sized = well-sized (length text) f;
        within = (omega arith, omega arith);
        broken = λ k q l s. let same : k ≡ i = omega arith in broken-line i l (of_T _ t) (rw same at s);
        earlier = λ k h. (
          line_at text (40 * k),
          line-stands k (by-test (is_broken text k)
              (λ y. absurd (omega (arith, least-le (is_broken text) (length text / 40) 0 i k e (omega arith) (rw y tt))))
              (λ n. n)),
        );
      }

  -- ---- places are small

  pub broken-few : length text ≤ 64000 → (i : ℕ) → first_broken text ≡ Some i → i < 1600
  unfolding first_broken
  broken-few most i e = let (low, high, t) = least_at (is_broken text) (length text / 40) 0 i e in omega arith

module _ (ls : List (List ℕ)) (rows text : List ℕ) where
  -- what an answer says
  abbrev pub MeansOf : Result (Unit {0}) Refusal → Result (List ℕ) LogRefusal → Type 0
  MeansOf check a = Means check ls rows text a

  pub place-few : Loadable ls → Accepted rows → length text ≤ 64000 → (follow_log (frames_of ls rows) rows (lines_of text)).place ≤ 1600
  place-few loadable accepted most =
      by-test (eqb (follow_log (frames_of ls rows) rows (lines_of text)).place 0)
      (λ t. omega (arith, eqb-true (follow_log (frames_of ls rows) rows (lines_of text)).place 0 t))
      (λ f.
      let some = eqb-false (follow_log (frames_of ls rows) rows (lines_of text)).place 0 f in
      omega (arith, (followed-shortest ls rows accepted loadable (lines_of text) (omega arith)).within, lines-count text))

  -- ---- the answer

  module _ (check : Result (Unit {0}) Refusal) (passed : check ≡ Ok tt) (loadable : Loadable ls) (accepted : Accepted rows) where
    followed-means : Holds text (lines_of text) → MeansOf check (followed_answer (frames_of ls rows) rows (lines_of text))
    unfolding followed_answer Means Refuses
    followed-means holds =
        by-test (eqb (follow_log (frames_of ls rows) rows (lines_of text)).place 0)
        (λ t. rw t (passed, holds, followed-shown ls rows accepted loadable (lines_of text) (eqb-true _ _ t)))
        (λ f.
        let some = eqb-false (follow_log (frames_of ls rows) rows (lines_of text)).place 0 f in
        rw f (passed, holds, followed-shortest ls rows accepted loadable (lines_of text) (omega arith)))

    line-means : is_missized (length text) ≡ false → (found : Option ℕ) → first_broken text ≡ found → MeansOf check (line_answer ls rows text found)
    unfolding line_answer Means Refuses
    line-means f (Some i) e = (passed, inr (first-broken text f i e))
    line-means f None e = followed-means (all_hold text f e)

    text-means : MeansOf check (text_answer ls rows text)
    unfolding text_answer Means Refuses
    text-means =
        by-test (is_missized (length text))
        (λ t. rw t (passed, inl (refl, not-sized (length text) t)))
        (λ f. rw f (line-means f (first_broken text) refl))

  -- Where a check passes only lengths and tables that can be used, the answer says what it is to say.
  pub answer-means : (check : Result (Unit {0}) Refusal) → (check ≡ Ok tt → Loadable ls × Accepted rows) → MeansOf check (checked_answer check ls rows text)
  unfolding checked_answer Means Refuses
  answer-means (Ok tt) good = let (loadable, accepted) = good refl in text-means (Ok tt) refl loadable accepted
  answer-means (Err r) good = refl

-- ---- the starts as code has them

module _ (ls : List (List ℕ)) (rows text : List ℕ) (loadable : Loadable ls) (accepted : Accepted rows) where
  -- What is known at the end of a log that was followed is what is shown.
  pub starts-known : (p : Progress) → follow_log (frames_of ls rows) rows (lines_of text) ≡ record { place = 0; progress = p }
      → map (start_shown p) (range 1 16) ≡ shown_starts (frames_of ls rows) rows (lines_of text)
  unfolding shown_starts
  starts-known p e =
      map_same (range 1 16)
      (λ j m. ap (λ (x : Followed). start_shown x.progress j) (sym e) ∙ shown-known ls rows accepted loadable (lines_of text) (ap (λ (x : Followed). x.place) e) j)
