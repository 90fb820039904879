-- The work of a scenario covers what arrives from a tick on,
-- if the tick stands at alignments that the scenario allows.
use Rattle.std.specs.Prelude.{ℕ, ◌+◌, ◌*◌, ◌≤◌, ◌≡◌, refl, ◌≢◌, eqb}
use Rattle.std.proofs.Common.{sym, arith, le_of_eq, eqb→eq}
use mathlib.Core.List.Memᴰ.{head as here}
use mathlib.Core.List.Memᴰ.{tail as there}
use mathlib.Core.List.{List, [], ◌∷◌, Memᴰ as Mem}
use Rattle.std.proofs.Math.Nat.{le_trans, mul-le-mul_left}
use Rattle.std.proofs.Math.Dec.{eqb_refl}
use Rattle.arith.specs.Lists.{sum, keep, range}
use Rattle.arith.specs.Laws.Tests.{cond_yes, cond_no}
use Rattle.arith.specs.Laws.Sums.{sum-le, sum-none, sum-at}
use Rattle.bus_model.specs.Valid.{ValidFrame, Valid}
use Rattle.bus_model.specs.Pattern.{of_group}
use Rattle.bus_model.specs.Bounds.{groups, alignments, choice_of, demand, work_at, group_work, work}
use Rattle.bus_model.proofs.Theory.Arrivals.{arrived}
use Rattle.bus_model.proofs.Theory.Frames.{Part, valid-frame, of-ahead, of-group, group-part}
use Rattle.bus_model.proofs.Theory.Alignment.{Stands, arrived-le}
use Rattle.bus_model.specs.Theory.Work.{Allows}
use Rattle.bus_model.proofs.Theory.Work.{choice-le}
use Rattle.bus_model.specs.declared.Frame.{Frame}
use Rattle.bus_model.specs.declared.Choice.{Choice}
use Rattle.bus_model.specs.declared.Choice.TheVariants.{Fixed}

-- A sum over frames is made up of the sums over each group's frames.
pub by-groups : (w : Frame → ℕ) (gs : List Frame) → ((g : Frame) → Mem g gs → ValidFrame g) → sum w gs ≡ sum (λ j. sum w (of_group gs j)) (range 1 groups)
unfolding of_group sum keep
by-groups w [] valid = sym (sum-none {f = λ j. 0} (range 1 groups) (λ j m. refl))
by-groups w (g ∷ gs) valid =
    let own = valid g (here refl) in
    let rest : ℕ → ℕ = λ j. sum w (of_group gs j) in
    let least = sum-at rest all (w g) 0 1 groups g.group own.group-low (omega (arith, own.group-high)) (λ j low high ne. le_of_eq (sym (other j ne))) (omega (arith, one)) in
    let most = sum-at all rest 0 (w g) 1 groups g.group own.group-low (omega (arith, own.group-high)) (λ j low high ne. le_of_eq (other j ne)) (omega (arith, one)) in
    omega (arith, by-groups w gs (λ h m. valid h (there m)))
  where
    all : ℕ → ℕ
    all j = sum w (of_group (g ∷ gs) j)

    one : all g.group ≡ w g + sum w (of_group gs g.group)
    one = rw (cond_yes (eqb g.group g.group) (g ∷ of_group gs g.group) (of_group gs g.group) (eqb_refl g.group)) refl

    other : (j : ℕ) → j ≢ g.group → all j ≡ sum w (of_group gs j)
    other j ne = rw (cond_no (eqb g.group j) (g ∷ of_group gs j) (of_group gs j) (λ t. ne (sym (eqb→eq g.group j t)))) refl

-- A scenario agrees with alignments: at each group it allows them.
abbrev pub Agrees : List Frame → Frame → (ℕ → ℕ) → List Choice → Type 0
Agrees fs k α cs = (j : ℕ) → Mem j (range 1 groups) → Allows (alignments fs k j) (choice_of cs j) (Fixed (α j))

module _
    {fs : List Frame} (valid : Valid fs) (k : Frame) (starts : ℕ → ℕ) (t : ℕ) (α : ℕ → ℕ) (stands : Stands fs k starts t α)
    (cs : List Choice) (agrees : Agrees fs k α cs) {gs : List Frame} (part : Part fs k gs)
  where
    -- What arrives at a group is at most the group's work.
    group-covers : (x j : ℕ) → Mem j (range 1 groups) → sum (λ g. g.length * arrived starts g t x) (of_group gs j) ≤ group_work (of_group gs j) (alignments fs k j) (choice_of cs j) x
    unfolding group_work work_at demand
    group-covers x j m = le_trans (sum-le (of_group gs j) arrives) (choice-le valid k part j x (choice_of cs j) (Fixed (α j)) (agrees j m))
      where
        arrives : (g : Frame) → Mem g (of_group gs j) → g.length * arrived starts g t x ≤ demand g (α j) x
        arrives g l =
            let own = valid-frame valid (of-ahead fs k (part g (of-group gs j l).0)) in
            mul-le-mul_left g.length (arrived-le starts t (α j) own (stands j g (group-part fs k part j g l)) x)

    -- So what arrives at all groups is at most the work.
    pub covers : (x : ℕ) → sum (λ g. g.length * arrived starts g t x) gs ≤ work fs k gs cs x
    unfolding work
    covers x =
        let each = by-groups (λ g. g.length * arrived starts g t x) gs (λ g m. valid-frame valid (of-ahead fs k (part g m))) in
        rw each (sum-le (range 1 groups) (λ j m. group-covers x j m))
