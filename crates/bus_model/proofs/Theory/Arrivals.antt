-- The releases of a frame, counted: those before a tick, and those from a tick on.
-- The bus rule speaks of single releases; the busy window counts them.
use Rattle.std.specs.Prelude.{ℕ, ◌+◌, ◌-◌}
use Rattle.arith.specs.Releases.{releases_before}
use Rattle.bus_model.specs.declared.Frame.{Frame}

-- how many instances of the frame are released before tick t
unfoldable pub released_by : (ℕ → ℕ) → Frame → ℕ → ℕ
released_by starts g t = releases_before (starts g.group + g.offset) g.period t

-- how many are released at the ticks t .. t + x - 1
unfoldable pub arrived : (ℕ → ℕ) → Frame → ℕ → ℕ → ℕ
arrived starts g t x = released_by starts g (t + x) - released_by starts g t
