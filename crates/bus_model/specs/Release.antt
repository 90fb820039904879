-- The releases of a frame, document 01's "queueings" (document 01, "The bus rule").
-- `starts` gives each group's start.
use Rattle.std.specs.Prelude.{ℕ, ◌+◌, ◌*◌}
use Rattle.bus_model.specs.declared.Frame.{Frame}

-- when instance n of the frame, from 0, is released, document 01's "queued": s + o + n×p
unfoldable pub release : (ℕ → ℕ) → Frame → ℕ → ℕ
release starts g n = starts g.group + g.offset + n * g.period
