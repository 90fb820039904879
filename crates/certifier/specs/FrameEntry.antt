-- What the entry for a frame's exact length answers (document 02, request 8; document 01, the end of "Where a call is turned back").
use Rattle.std.specs.Prelude.{◌+◌, ◌*◌, cond, eqb, ℤ, pos, neg_ℤ}
use Rattle.frame_length.specs.FrameLength.{FrameReturned}

-- the length, or minus (number × 10000 + place)
unfoldable pub encode_frame : FrameReturned → ℤ
encode_frame r = cond (eqb r.number 0) (pos r.ticks) (neg_ℤ (pos (r.number * 10000 + r.place)))
