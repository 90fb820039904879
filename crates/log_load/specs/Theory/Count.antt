-- Busy ticks counted line by line, where the lines come one after the other.
use Rattle.std.specs.Prelude.{ℕ, zero, suc, ◌+◌, ◌≤◌, ◌<◌, ◌≡◌, refl, true, false, cond, List, [], ◌∷◌}
use Rattle.std.proofs.Common.{sym, ap, ◌∙◌, arith, zero-add, le-leb, lt-ltb, le-ltb}
use Rattle.std.proofs.Math.Decide.{dec_lt}
use Rattle.std.proofs.lemmas.Bool.{lt-leb}
use Rattle.arith.specs.Lists.{sum, exists, range}
use Rattle.arith.specs.Laws.Sums.{sum_same}
use Rattle.bus_log.specs.declared.Line.{Line}
use Rattle.bus_log.specs.Log.{end_from, last_end}
use Rattle.log_load.specs.Busy.{holds, is_busy, busy_at, busy_in}
use Rattle.log_load.specs.Steps.{Ordered, overlap}
use Rattle.log_load.specs.Theory.Stretch.{sum-last}

-- 1 where the line holds tick u
abbrev covers : ℕ → Line → ℕ
covers u l = cond (holds u l) 1 0

before-line : (u : ℕ) (l : Line) → u < l.start → holds u l ≡ false
unfolding holds
before-line u l h = rw (lt-leb l.start u h)

after_line : (u : ℕ) (l : Line) → l.start + l.length ≤ u → holds u l ≡ false
unfolding holds
after_line u l h = rw (le-leb l.start u (omega arith), le-ltb u (l.start + l.length) h)

within-line : (u : ℕ) (l : Line) → l.start ≤ u → u < l.start + l.length → holds u l ≡ true
unfolding holds
within-line u l a b = rw (le-leb l.start u a, lt-ltb u (l.start + l.length) b)

-- no line holds a tick before the first
none_before : (e : ℕ) (log : List Line) → Ordered e log → (u : ℕ) → u < e → (is_busy log u ≡ false) × (sum (covers u) log ≡ 0)
unfolding Ordered is_busy exists sum
none_before e [] o u h = (refl, refl)
none_before e (l ∷ ls) (first, rest) u h =
    let (a, b) = none_before (l.start + l.length) ls rest u (omega arith) in
    let f = before-line u l (omega arith) in
    (rw f a, rw f (omega arith))

-- A tick is busy where one line holds it, and no two do.
busy-lines : (e : ℕ) (log : List Line) → Ordered e log → (u : ℕ) → busy_at log u ≡ sum (covers u) log
unfolding Ordered is_busy exists sum busy_at
busy-lines e [] o u = refl
busy-lines e (l ∷ ls) (first, rest) u =
    elim (dec_lt u l.start) [
      | yes h ↦ let f = before-line u l h in rw f (busy-lines (l.start + l.length) ls rest u ∙ sym (zero-add _))
      | no h ↦ elim (dec_lt u (l.start + l.length)) [
        | yes g ↦ let (a, b) = none_before (l.start + l.length) ls rest u g in let t = within-line u l (omega arith) g in rw (t, b)
        | no g ↦ let f = after_line u l (omega arith) in rw f (busy-lines (l.start + l.length) ls rest u ∙ sym (zero-add _))
      ]
    ]

-- ---- one line in a stretch

line-ticks : (l : Line) (s w : ℕ) → sum (λ u. covers u l) (range s w) ≡ overlap w s l
unfolding overlap sum range
line-ticks l s zero = omega arith
line-ticks l s (suc w) =
    sum-last (λ u. covers u l) w s ∙
    elim (dec_lt (s + w) l.start) [
      | yes h ↦ let f = before-line (s + w) l h in rw f (let ih = line-ticks l s w in omega arith)
      | no h ↦ elim (dec_lt (s + w) (l.start + l.length)) [
        | yes g ↦ let t = within-line (s + w) l (omega arith) g in rw t (let ih = line-ticks l s w in omega arith)
        | no g ↦ let f = after_line (s + w) l (omega arith) in rw f (let ih = line-ticks l s w in omega arith)
      ]
    ]

-- ---- all lines

sum_both : {A : Type 0} (f g : A → ℕ) (xs : List A) → sum (λ x. f x + g x) xs ≡ sum f xs + sum g xs
unfolding sum
sum_both f g [] = refl
sum_both f g (x ∷ xs) = let ih = sum_both f g xs in omega arith

sum-none : {A : Type 0} (xs : List A) → sum (λ x. 0) xs ≡ 0
unfolding sum
sum-none [] = refl
sum-none (x ∷ xs) = let ih = sum-none xs in omega arith

-- first by ticks or first by lines
swapped : (us : List ℕ) (log : List Line) → sum (λ u. sum (covers u) log) us ≡ sum (λ l. sum (λ u. covers u l) us) log
unfolding sum
swapped us [] = sum-none us
swapped us (l ∷ ls) = sum_both (λ u. covers u l) (λ u. sum (covers u) ls) us ∙ ap (λ (n : ℕ). sum (λ u. covers u l) us + n) (swapped us ls)

module _ (e : ℕ) (log : List Line) (ordered : Ordered e log) where
  -- The busy ticks of a stretch are those that its lines hold.
  pub busy-overlap : (w s : ℕ) → busy_in log w s ≡ sum (overlap w s) log
  unfolding busy_in
  busy-overlap w s =
      sum_same (range s w) (λ u m. busy-lines e log ordered u)
      ∙ swapped (range s w) log
      ∙ sum_same log (λ l m. line-ticks l s w)

-- The whole of each line is before the last end.
whole-lines : (e n : ℕ) (log : List Line) → Ordered e log → end_from e log ≤ n → (e ≤ end_from e log) × (sum (overlap n 0) log ≡ sum (λ l. l.length) log)
unfolding Ordered end_from sum overlap
whole-lines e n [] o h = (omega arith, refl)
whole-lines e n (l ∷ ls) (first, rest) h =
    let (a, b) = whole-lines (l.start + l.length) n ls rest h in
    (omega arith, omega arith)

-- "The busy ticks of the whole log equal the sum of its lengths."
pub busy-whole : (log : List Line) → Ordered 0 log → busy_in log (last_end log) 0 ≡ sum (λ l. l.length) log
busy-whole log ordered = busy-overlap 0 log ordered (last_end log) 0 ∙ (whole-lines 0 (last_end log) log ordered (omega arith)).1
