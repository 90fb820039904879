-- A frame of the table, by the numbers that the bus rule and the bounds read (document 01, "The table").
-- A table is a list of frames; its rows count from 0.
use Rattle.std.specs.Prelude.{ℕ, List, get_or}
use Rattle.bus_model.specs.declared.Frame.{Frame}

-- what stands in no row
abbrev pub no_frame : Frame
no_frame = record { group = 0; priority = 0; length = 0; period = 0; offset = 0 }

-- the frame in row i
abbrev pub row : List Frame → ℕ → Frame
row fs i = get_or fs i no_frame
