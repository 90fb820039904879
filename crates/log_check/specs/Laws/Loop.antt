-- Lines that are in the notation, as a loop follows them.
use Rattle.std.specs.Prelude.{ℕ, ◌+◌, ◌-◌, ◌*◌, ◌/◌, ◌%◌, ◌≤◌, ◌<◌, ◌≡◌, refl, true, false, List, [], ◌∷◌, map, eqb, length, None, Ok, Err}
use Rattle.std.proofs.Common.{sym, ◌∙◌, arith, ltb-false}
use Rattle.std.proofs.Math.Path.{ap}
use Rattle.arith.specs.Lists.{range}
use Rattle.arith.specs.Laws.Tests.{by-test}
use Rattle.arith.specs.Laws.Least.{least-finds, none-at}
use Rattle.arith.specs.Laws.Members.{range-next, range-end}
use Rattle.table_checks.specs.Frames.{frames_of}
use Rattle.bus_log.specs.declared.Entry.{Entry}
use Rattle.bus_log.specs.declared.Progress.{Progress}
use Rattle.bus_log.specs.Follow.{Followed, entry_of, begin, follow_line, follow, follow_log}
use Rattle.bus_log.proofs.Theory.Lines.{line-goes, line-stops}
use Rattle.log_reader.specs.Text.{line_at}
use Rattle.log_check.specs.Check.{is_missized, is_broken, first_broken, lines_of}

-- A length that a log can have.
pub sized : (size : ℕ) → is_missized size ≡ false → size ≤ 64000
unfolding is_missized
sized size f =
    by-test (eqb (size % 40) 0)
    (λ t. ltb-false 64000 size (rw t at f))
    (λ n. let z : true ≡ false = rw n at f in let y : ◌≡◌ {A = ℕ} 0 1 = cc in absurd (omega arith))

-- Where no line is broken, line i is not.
pub whole-line : (text : List ℕ) → first_broken text ≡ None → (i : ℕ) → i < length text / 40 → is_broken text i ≡ false
unfolding first_broken
whole-line text none i l =
    by-test (is_broken text i)
    (λ t. let (k, at, le) = least-finds (is_broken text) (length text / 40) 0 i (omega arith) (omega arith) (rw t tt) in absurd (none-at (sym none ∙ at)))
    (λ f. f)

-- Groups 1 to 16 by their places.
pub by_place : (f : ℕ → ℕ) → map (λ i. f (i + 1)) (range 0 16) ≡ map f (range 1 16)
unfolding range
by_place f = refl

-- ---- the log, followed by a loop

map-twice : {A B C : Type 0} (f : B → C) (g : A → B) (xs : List A) → map f (map g xs) ≡ map (λ x. f (g x)) xs
map-twice f g [] = refl
map-twice {C = C} f g (x ∷ xs) = ap {B = List C} (λ r. f (g x) ∷ r) (map-twice f g xs)

module _ (ls : List (List ℕ)) (rows text : List ℕ) where
  -- entry i
  abbrev pub entry_at : ℕ → Entry
  entry_at i = entry_of rows (line_at text (40 * i))

  abbrev goal : Followed
  goal = follow_log (frames_of ls rows) rows (lines_of text)

  -- It starts with the first.
  pub log-start : follow (frames_of ls rows) begin 0 (map entry_at (range 0 (length text / 40))) ≡ goal
  unfolding follow_log lines_of
  log-start = ap (follow (frames_of ls rows) begin 0) (sym (map-twice (entry_of rows) (λ i. line_at text (40 * i)) (range 0 (length text / 40))))

  module _ (n i : ℕ) (p : Progress) (is : follow (frames_of ls rows) p i (map entry_at (range i (n - i))) ≡ goal) where
    -- It ends after the last.
    pub log-end : n ≤ i → goal ≡ record { place = 0; progress = p }
    unfolding follow
    log-end h = sym (rw (range-end n i h) at is)

    module _ (l : i < n) where
      here : follow (frames_of ls rows) p i (entry_at i ∷ map entry_at (range (i + 1) (n - (i + 1)))) ≡ goal
      here = rw (range-next n i l) at is

      -- It goes on after a line,
      pub log-goes : (q : Progress) → Ok q ≡ follow_line (frames_of ls rows) p i (entry_at i)
          → follow (frames_of ls rows) q (i + 1) (map entry_at (range (i + 1) (n - (i + 1)))) ≡ goal
      log-goes q line = line-goes (frames_of ls rows) p i (entry_at i) (map entry_at (range (i + 1) (n - (i + 1)))) q line ∙ here

      -- or stops there.
      pub log-stops : (k : ℕ) → Err k ≡ follow_line (frames_of ls rows) p i (entry_at i) → (1 ≤ k) × (goal.place ≡ k)
      log-stops k line =
          let (at, e) = line-stops (frames_of ls rows) p i (entry_at i) (map entry_at (range (i + 1) (n - (i + 1)))) k line in
          (omega arith, ap (λ (r : Followed). r.place) (sym (e ∙ here)))
