-- The work of a scenario: it grows with time, as the load of faults does, it is least where every group's alignment is fixed,
-- and that of the frames ahead is that of the better ones and the frame's own.
use Prim.Native.Nat.{ℕ, suc, ◌+◌, ◌-◌, ◌*◌, ◌≤◌, ◌<◌}
use Rattle.std.specs.Prelude.{◌≡◌, refl, ◌≢◌, eqb, length}
use Rattle.std.proofs.Common.{sym, ap, eqb→eq}
use Rattle.std.proofs.Math.Path.{fun_ext}
use mathlib.Core.List.Memᴰ
use mathlib.Core.List.Memᴰ.{head as here}
use mathlib.Core.List.{List, [], ◌∷◌, Memᴰ as Mem}
use Rattle.std.proofs.Math.Bool.{cond}
use native.Mathlib.Omega.{arith}
use Rattle.std.proofs.Math.Nat.{le_refl, le_of_eq, le_trans, mul-le-mul_left, mul-le-mul_right}
use Rattle.std.proofs.Math.Dec.{eqb_refl}
use Rattle.arith.specs.Lists.{sum, greatest, range}
use Rattle.arith.specs.Releases.{releases_before}
use Rattle.arith.specs.Laws.Tests.{cond_yes, cond_no}
use Rattle.arith.specs.Laws.Sums.{sum-le, sum-keep, sum-at, le-greatest, greatest-le}
use Rattle.arith.specs.Laws.Releases.{count-mono, count-grows, count-ahead}
use Rattle.bus_model.specs.Frame.{row}
use Rattle.bus_model.specs.Valid.{ValidFrame, Valid}
use Rattle.bus_model.specs.Pattern.{of_group}
use Rattle.bus_model.specs.Bounds.{groups, ahead, better, phase, alignments, or_empty, choice_of, demand, work_at, group_work, work, fault_time, fault_load}
use Rattle.bus_model.proofs.Theory.Rows.{ahead-sum}
use Rattle.bus_model.proofs.Theory.Frames.{Part, valid-frame, of-ahead, of-group, group-part}
use Rattle.bus_model.proofs.Theory.Alignment.{phase-aligned}
use Rattle.bus_model.specs.declared.Frame.{Frame}
use Rattle.bus_model.specs.declared.Faults.{Faults}
use Rattle.bus_model.specs.declared.Faults.TheVariants.{Never, Apart}
use Rattle.bus_model.specs.declared.Choice.{Choice}
use Rattle.bus_model.specs.declared.Choice.TheVariants.{Fixed, Any}
use Rattle.bus_model.specs.Theory.Work.{Allows, RefinedBy}

-- ---- more time, more work

module _ {n n' : ℕ} (le : n ≤ n') where
  -- A frame's demand grows with time.
  demand-mono : {g : Frame} → ValidFrame g → (a : ℕ) → demand g a n ≤ demand g a n'
  unfolding demand
  demand-mono {g} valid a = mul-le-mul_left g.length (count-mono _ valid.period le)

  -- So does the work at an alignment.
  at-mono : (gs : List Frame) → ((g : Frame) → Mem g gs → ValidFrame g) → (a : ℕ) → work_at gs a n ≤ work_at gs a n'
  unfolding work_at
  at-mono gs valid a = sum-le gs (λ g m. demand-mono (valid g m) a)

  -- So does a group's work.
  pub group-mono : (gs : List Frame) → ((g : Frame) → Mem g gs → ValidFrame g) → (als : List ℕ) (c : Choice) → group_work gs als c n ≤ group_work gs als c n'
  unfolding group_work
  group-mono gs valid als (Fixed a) = at-mono gs valid a
  group-mono gs valid als Any = greatest-le als (λ a m. le_trans (at-mono gs valid a) (le-greatest (λ b. work_at gs b n') m))

  -- So does all the work.
  pub work-mono : (fs : List Frame) → Valid fs → (k : Frame) {gs : List Frame} → Part fs k gs → (cs : List Choice) → work fs k gs cs n ≤ work fs k gs cs n'
  unfolding work
  work-mono fs valid k {gs} part cs =
      sum-le (range 1 groups) (λ j m. group-mono (of_group gs j) (λ g l. valid-frame valid (of-ahead fs k (part g (of-group gs j l).0))) (alignments fs k j) (choice_of cs j))

  -- So does the load of faults.
  pub fault-mono : (faults : Faults) (fs : List Frame) (k : Frame) → fault_load faults fs k n ≤ fault_load faults fs k n'
  unfolding fault_load
  fault-mono Never fs k = omega arith
  fault-mono (Apart g) fs k = mul-le-mul_right (fault_time fs k) (count-grows 0 g le)

-- The faults that load a start: some at once, and then as many as there are releases of a frame of period g and some distance.
pub fault-start : {g : ℕ} → 1 ≤ g → (fs : List Frame) (k : Frame) → 1 ≤ k.length → (w : ℕ)
    → fault_load (Apart g) fs k (w + k.length) ≡ (releases_before 0 g (k.length - 1) + releases_before (releases_before 0 g (k.length - 1) * g - (k.length - 1)) g (suc w)) * fault_time fs k
unfolding fault_load
fault-start {g} some fs k long w =
    let same : w + k.length ≡ suc w + (k.length - 1) = omega arith in
    rw same (ap (λ (n : ℕ). n * fault_time fs k) (count-ahead some (suc w) (k.length - 1)))

-- The work at an alignment is at most the greatest, if a group without alignments has no frames.
open-le : (gs : List Frame) (als : List ℕ) (b n : ℕ) → ((g : Frame) → Mem g gs → Mem (phase g) als) → Mem b (or_empty als) → work_at gs b n ≤ greatest (λ a. work_at gs a n) als
unfolding or_empty work_at sum
open-le [] [] b n has m = omega arith
open-le (g ∷ gs) [] b n has m = absurd (Memᴰ.not-nil (has g (here refl)))
open-le gs (a ∷ als) b n has m = le-greatest (λ c. work_at gs c n) m

module _ {fs : List Frame} (valid : Valid fs) (k : Frame) {gs : List Frame} (part : Part fs k gs) where
  -- A choice that is allowed gives no more work.
  pub choice-le : (j n : ℕ) (c c' : Choice) → Allows (alignments fs k j) c c' → group_work (of_group gs j) (alignments fs k j) c' n ≤ group_work (of_group gs j) (alignments fs k j) c n
  unfolding Allows group_work
  choice-le j n (Fixed a) (Fixed b) e = rw e (le_refl _)
  choice-le j n (Fixed a) Any no_way = absurd no_way
  choice-le j n Any (Fixed b) m = open-le (of_group gs j) (alignments fs k j) b n (λ g l. phase-aligned valid k j (group-part fs k part j g l)) m
  choice-le j n Any Any u = le_refl _

  -- A scenario has no less work than one that refines it.
  pub work-refine : (cs cs' : List Choice) → RefinedBy fs k cs cs' → (n : ℕ) → work fs k gs cs' n ≤ work fs k gs cs n
  unfolding work
  work-refine cs cs' refines n = sum-le (range 1 groups) (λ j m. choice-le j n (choice_of cs j) (choice_of cs' j) (refines j m))

-- ---- the frame's own work

module _ {fs : List Frame} (valid : Valid fs) {k : ℕ} (inside : k < length fs) where
  abbrev f : Frame
  f = row fs k

  -- A sum over the frames ahead of one group is that over the better ones, and at the frame's own group its own term.
  group-sum : (w : Frame → ℕ) (j : ℕ) → sum w (of_group (ahead fs f) j) ≡ sum w (of_group (better fs f) j) + cond (eqb f.group j) (w f) 0
  unfolding of_group
  group-sum w j = rw (sum-keep _ w (ahead fs f), sum-keep _ w (better fs f)) (ahead-sum valid inside (λ g. cond (eqb g.group j) (w g) 0))

  -- The same of the work at one alignment.
  at_sum : (j a n : ℕ) → work_at (of_group (ahead fs f) j) a n ≡ work_at (of_group (better fs f) j) a n + cond (eqb f.group j) (demand f a n) 0
  unfolding work_at
  at_sum j a n = group-sum (λ g. demand g a n) j

  -- At another group the frames ahead are the better ones.
  other-same : (j n : ℕ) (c : Choice) → f.group ≢ j → group_work (of_group (better fs f) j) (alignments fs f j) c n ≡ group_work (of_group (ahead fs f) j) (alignments fs f j) c n
  unfolding group_work
  other-same j n c other = by-choice c
    where
      same : (a : ℕ) → work_at (of_group (better fs f) j) a n ≡ work_at (of_group (ahead fs f) j) a n
      same a = omega (arith, at_sum j a n, cond_no (eqb f.group j) (demand f a n) 0 (λ t. other (eqb→eq f.group j t)))

      by-choice : (c : Choice) → group_work (of_group (better fs f) j) (alignments fs f j) c n ≡ group_work (of_group (ahead fs f) j) (alignments fs f j) c n
      by-choice (Fixed a) = same a
      by-choice Any = ap (λ (h : ℕ → ℕ). greatest h (alignments fs f j)) (fun_ext same)

  module _ (a n : ℕ) where
    -- At the frame's own group they are these and the frame itself.
    own-more : group_work (of_group (better fs f) f.group) (alignments fs f f.group) (Fixed a) n + demand f a n
        ≡ group_work (of_group (ahead fs f) f.group) (alignments fs f f.group) (Fixed a) n
    unfolding group_work
    own-more = omega (arith, at_sum f.group a n, cond_yes (eqb f.group f.group) (demand f a n) 0 (eqb_refl f.group))

    -- So the work of the frames ahead is that of the better ones and the frame's own, in a scenario that fixes its group.
    pub work-own : (cs : List Choice) → choice_of cs f.group ≡ Fixed a → work fs f (better fs f) cs n + demand f a n ≡ work fs f (ahead fs f) cs n
    unfolding work
    work-own cs own =
        let v = valid.frame k inside in
        let of : List Frame → ℕ → ℕ = λ gs j. group_work (of_group gs j) (alignments fs f j) (choice_of cs j) n in
        let mine : of (better fs f) f.group + demand f a n ≡ of (ahead fs f) f.group = rw own own-more in
        let least = sum-at (of (better fs f)) (of (ahead fs f)) (demand f a n) 0 1 groups f.group v.group-low (omega (arith, v.group-high))
        (λ j low high ne. le_of_eq (other-same j n (choice_of cs j) (λ e. ne (sym e)))) (omega arith) in
        let most = sum-at (of (ahead fs f)) (of (better fs f)) 0 (demand f a n) 1 groups f.group v.group-low (omega (arith, v.group-high))
        (λ j low high ne. le_of_eq (sym (other-same j n (choice_of cs j) (λ e. ne (sym e))))) (omega arith) in
        omega arith
