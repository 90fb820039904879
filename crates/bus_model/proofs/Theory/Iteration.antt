-- Where the search for an instance's queueing delay may begin: a length after that of the instance before.
use Prim.Native.Nat.{ℕ, suc, ◌+◌, ◌-◌, ◌≤◌}
use Rattle.std.specs.Prelude.{List}
use native.Mathlib.Omega.{arith}
use Rattle.std.proofs.Math.Nat.{suc-mul}
use Rattle.bus_model.specs.Valid.{Valid}
use Rattle.bus_model.specs.Bounds.{delay_load}
use Rattle.bus_model.proofs.Theory.Frames.{better-ahead}
use Rattle.bus_model.proofs.Theory.Work.{work-mono, fault-mono}
use Rattle.bus_model.specs.declared.Frame.{Frame}
use Rattle.bus_model.specs.declared.Faults.{Faults}
use Rattle.bus_model.specs.declared.Choice.{Choice}

module _ (faults : Faults) {fs : List Frame} (valid : Valid fs) (k : Frame) (cs : List Choice) where
  -- no delay is below x
  abbrev pub DelayFrom : ℕ → ℕ → Type 0
  DelayFrom q x = (w : ℕ) → delay_load faults fs k cs q w ≤ w → x ≤ w

  -- No delay of the next instance is below one of this plus a length.
  pub delay-next : (q x : ℕ) → DelayFrom q x → DelayFrom (suc q) (x + k.length)
  unfolding delay_load
  delay-next q x from w allows =
      let earlier : suc (w - k.length) ≤ suc w = omega arith in
      let less = work-mono earlier fs valid k (better-ahead fs k) cs in
      let whole : w - k.length + k.length ≤ w + k.length = omega arith in
      let cut = fault-mono whole faults fs k in
      omega (arith, suc-mul q k.length, from (w - k.length) (omega (arith, suc-mul q k.length)))
