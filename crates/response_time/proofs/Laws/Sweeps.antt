-- A sweep over the instances, some at a time.
use Prim.Native.Nat.{ℕ, ◌+◌, ◌-◌, ◌<◌, min}
use Rattle.std.specs.Prelude.{◌≡◌, List}
use Rattle.std.proofs.Common.{subst}
use native.Mathlib.Omega.{arith}
use Rattle.std.proofs.Math.Decide.{dec_lt}
use Rattle.bus_model.specs.declared.Frame.{Frame}
use Rattle.bus_model.specs.declared.Faults.{Faults}
use Rattle.bus_model.specs.declared.Choice.{Choice}
use Rattle.response_time.specs.Load.{ShownWithin, Swept}

module _ {faults : Faults} {fs : List Frame} {k : Frame} {cs : List Choice} {best : ℕ} where
  module _ {reach last q : ℕ} (s : Swept faults fs k cs best reach last q) (less : q < reach) where
    -- It passes those of which it is shown.
    pub swept-shown : (count : ℕ) → ((i : ℕ) → i < count → ShownWithin faults fs k cs best (q + i)) → Swept faults fs k cs best reach last (min (q + count) reach)
    swept-shown count each = record {
      before = omega (arith, s.before);
      inside = omega arith;
      each = λ i low l.
          elim (dec_lt i q) [
            | yes earlier ↦ s.each i low earlier
            | no later ↦ let is : q + (i - q) ≡ i = omega arith in subst (ShownWithin faults fs k cs best) is (each (i - q) (omega arith))
          ];
    }
