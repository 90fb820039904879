-- The number goes by what was measured.
use mathlib.Core.Path.{◌∙◌}
use Rattle.arith.specs.Laws.Signed.{kept}
use Rattle.frame_length.specs.FrameLength.{measured_returns}
use Rattle.certifier.specs.FrameEntry.{encode_frame}
use Rattle.certifier.proofs.frame_entry.certifier_frame_length.Goals as goal

pub returns-in-Some : goal.returns-in-Some
unfolding measured_returns encode_frame
returns-in-Some c = rw (← c.from.ensures, ← c.from-2.ensures, ← c.in-Some.ensures) (kept _ c.from-in-Some.type_inv ∙ c.from-in-Some.ensures)

pub returns-in-None : goal.returns-in-None
unfolding measured_returns encode_frame
returns-in-None c = rw (← c.from.ensures, ← c.from-2.ensures, ← c.in-None.ensures)
