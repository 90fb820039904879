-- The longest of some frames, as a loop down through them finds it.
use Rattle.std.specs.Prelude.{◌≡◌, ℕ, ◌-◌, ◌<◌, Bool, List, length}
use Rattle.std.proofs.Math.Path.{refl}
use Rattle.arith.specs.Lists.{greatest, keep}
use Rattle.arith.specs.Laws.Walks.{Down, down-start, down-more}
use Rattle.bus_model.specs.declared.Frame.{Frame}
use Rattle.bus_model.specs.Frame.{no_frame, row}
use Rattle.workload.proofs.Laws.Groups.{longest_of, longer_of, longest-cons}

module _ (fs : List Frame) (p : Frame → Bool) where
  -- A loop down through the frames starts at 0.
  pub longest-none : Down (longest_of p) fs 0 (length fs)
  unfolding greatest keep
  longest-none = down-start (longest_of p) fs refl

  -- It takes one frame more.
  pub longest-more : {i : ℕ} {g : Frame} {n r : ℕ} → Down (longest_of p) fs n i → 0 < i → g ≡ row fs (i - 1) → r ≡ longer_of p g n
      → Down (longest_of p) fs r (i - 1)
  longest-more = down-more (longest_of p) fs (longer_of p) (longest-cons p) no_frame
