-- The scenario with a guess in place of each open choice, group after group.
use Rattle.std.specs.Prelude.{ℕ, ◌+◌, ◌-◌, ◌≤◌, ◌<◌, ◌≡◌, List, length, get_or, set}
use Rattle.std.proofs.Common.{◌∙◌, arith, length-set, get_or-set_same, get_or-set_other, below_more}
use Rattle.arith.specs.Laws.Members.{of_range}
use Rattle.bus_model.specs.declared.Frame.{Frame}
use Rattle.bus_model.specs.declared.Choice.{Choice}
use Rattle.bus_model.specs.declared.Choice.TheVariants.{Fixed, Any}
use Rattle.bus_model.specs.Bounds.{groups, alignments}
use Rattle.bus_model.specs.Theory.Work.{Allows, RefinedBy}
use Rattle.workload.specs.Placed.{AllFixed}
use Rattle.workload.proofs.Laws.Groups.{read-choice}

-- the choices of the first m groups are allowed by those given, and fixed
pub record AllowedTo (fs : List Frame) (k : Frame) (cs cs' : List Choice) (m : ℕ) : Type 0 where
  pub size : length cs' ≡ 16
  pub each : (i : ℕ) → i < m → Allows (alignments fs k (i + 1)) (get_or cs i Any) (get_or cs' i Any)
  pub fixed : (i : ℕ) → i < m → (a : ℕ) × (get_or cs' i Any ≡ Fixed a)

module _ {fs : List Frame} {k : Frame} {cs cs' : List Choice} {m : ℕ} (b : AllowedTo fs k cs cs' m) where
  -- One more is put there.
  pub allowed-put : m < 16 → (c : Choice) → Allows (alignments fs k (m + 1)) (get_or cs m Any) c → (a : ℕ) × (c ≡ Fixed a) → AllowedTo fs k cs (set cs' m c) (m + 1)
  allowed-put l c is at = record {
    size = length-set cs' m c ∙ b.size;
    each = below_more _ _
        (λ i less. rw (get_or-set_other cs' m i c Any (omega arith)) (b.each i less))
        (rw (get_or-set_same cs' m c Any (omega (arith, b.size))) is);
    fixed = below_more _ _
        (λ i less. rw (get_or-set_other cs' m i c Any (omega arith)) (b.fixed i less))
        (rw (get_or-set_same cs' m c Any (omega (arith, b.size))) at);
  }

  -- At the end they refine the scenario,
  pub allowed_all : 16 ≤ m → RefinedBy fs k cs cs'
  allowed_all over j l =
      let (low, high) = of_range 1 groups l in
      let group : j - 1 + 1 ≡ j = omega arith in
      rw (read-choice (j - 1) cs, read-choice (j - 1) cs', group) at (b.each (j - 1) (omega arith))

  -- and every group's alignment is fixed.
  pub fixed-all : 16 ≤ m → AllFixed cs'
  fixed-all over j l =
      let (low, high) = of_range 1 groups l in
      let group : j - 1 + 1 ≡ j = omega arith in
      rw (read-choice (j - 1) cs', group) at (b.fixed (j - 1) (omega arith))
