-- A walk along the log, to the ends of a stretch.
use Rattle.std.specs.Prelude.{ℕ, zero, suc, ◌+◌, ◌-◌, ◌≤◌, ◌<◌, ◌≡◌, refl, List, [], ◌∷◌, length, drop}
use Rattle.std.proofs.Math.Path.{sym}
use Rattle.std.proofs.Common.{◌∙◌, add-zero, zero-add, drop-cons}
use native.Mathlib.Omega.{arith}
use Rattle.arith.specs.Lists.{sum, range}
use Rattle.arith.specs.Laws.Walks.{through-start, through-more, through-end, sum_more}
use Rattle.bus_log.specs.declared.Line.{Line}
use Rattle.log_load.specs.Busy.{busy_at, busy_in}
use Rattle.log_load.specs.Steps.{Ordered, no_line, nth, overlap, Walked}
use Rattle.log_load.specs.Theory.Stretch.{busy-most}
use Rattle.log_load.specs.Theory.Count.{busy-overlap}

-- ---- lines in order

-- Lines that start at e or later hold no tick before it.
none_before : (e : ℕ) (log : List Line) → Ordered e log → (t : ℕ) → t ≤ e → sum (overlap t 0) log ≡ 0
unfolding Ordered sum overlap
none_before e [] o t h = refl
none_before e (l ∷ ls) (first, rest) t h = let ih = none_before (l.start + l.length) ls rest t (omega arith) in omega arith

ordered-from : (e : ℕ) (log : List Line) → Ordered e log → (i : ℕ) → i < length log → (e ≤ (nth log i).start) × Ordered ((nth log i).start + (nth log i).length) (drop (suc i) log)
unfolding Ordered
ordered-from e [] o i h = absurd (omega arith)
ordered-from e (l ∷ ls) (first, rest) zero h = (first, rest)
ordered-from e (l ∷ ls) (first, rest) (suc i) h =
    let (a, b) = ordered-from (l.start + l.length) ls rest i (omega arith) in
    (omega arith, b)

-- A later line starts when an earlier one ends, or after it.
pub ordered-pair : (e : ℕ) (log : List Line) → Ordered e log → (i j : ℕ) → i < j → j < length log → (nth log i).start + (nth log i).length ≤ (nth log j).start
unfolding Ordered
ordered-pair e [] o i j h g = absurd (omega arith)
ordered-pair e (l ∷ ls) (first, rest) i zero h g = absurd (omega arith)
ordered-pair e (l ∷ ls) (first, rest) zero (suc j) h g = (ordered-from (l.start + l.length) ls rest j (omega arith)).0
ordered-pair e (l ∷ ls) (first, rest) (suc i) (suc j) h g = ordered-pair (l.start + l.length) ls rest i j (omega arith) (omega arith)

-- ---- a walk

module _ (log : List Line) (ordered : Ordered 0 log) where
  pub walk_start : (t : ℕ) → Walked log t 0 0
  walk_start t = record { until = λ u h. through-start _ _ log _ (zero-add _ ∙ sym (busy-overlap 0 log ordered u 0)) }

  module _ {t k done : ℕ} (walk : Walked log t k done) where
    -- It may go on to a later tick.
    pub walk-later : (u : ℕ) → t ≤ u → Walked log u k done
    walk-later u h = record { until = λ v g. walk.until v (omega arith) }

    -- What is done is busy, and no more than the ticks.
    pub walk-done : done ≤ t
    walk-done = omega (arith, (walk.until t (omega arith)).is, busy-most log t 0)

    pub walk-within : k ≤ length log
    walk-within = (walk.until t (omega arith)).inside

    -- The next line ends by the tick.
    pub walk_more : k < length log → (nth log k).start + (nth log k).length ≤ t → Walked log t (k + 1) (done + (nth log k).length)
    unfolding overlap
    walk_more less ends = record { until = λ u h. through-more _ _ log _ no_line (walk.until u h) less (sum_more _ done (nth log k) (omega arith)) }

    -- The next line ends after it: of it the ticks before are busy, and of the others none.
    pub walk-stop : k < length log → t < (nth log k).start + (nth log k).length → done + (t - (nth log k).start) ≡ busy_in log t 0
    unfolding sum overlap
    walk-stop less ends =
        let rest = none_before _ (drop (suc k) log) (ordered-from 0 log ordered k less).1 t (omega arith) in
        let is = rw (drop-cons log k no_line less) at (walk.until t (omega arith)).is in
        omega arith

    -- There is no next line.
    pub walk_end : length log ≤ k → done ≡ busy_in log t 0
    unfolding sum
    walk_end over = sym (add-zero done) ∙ through-end _ _ log _ (walk.until t (omega arith)) over

-- ---- both ends of a stretch

sum-parts : (f : ℕ → ℕ) (n s w : ℕ) → sum f (range n (s + w)) ≡ sum f (range n s) + sum f (range (n + s) w)
unfolding sum range
sum-parts f n zero w = rw (add-zero n, zero-add w) (omega arith)
sum-parts f n (suc s) w =
    let e : suc n + s ≡ n + suc s = omega arith in
    let d : suc s + w ≡ suc (s + w) = omega arith in
    let ih = rw e at (sum-parts f (suc n) s w) in
    rw d (omega arith)

-- The busy ticks of a stretch are those before its end that are not before its start.
pub busy-ends : (log : List Line) (w s : ℕ) → busy_in log (s + w) 0 ≡ busy_in log s 0 + busy_in log w s
unfolding busy_in
busy-ends log w s = rw (zero-add s) at (sum-parts (busy_at log) 0 s w)
