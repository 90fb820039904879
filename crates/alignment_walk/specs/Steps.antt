-- What a walk along the alignments of a group notes of each frame, so that it divides only once.
use Rattle.std.specs.Prelude.{ℕ, ◌+◌, ◌-◌, ◌*◌, ◌/◌, ◌%◌, ◌<◌, ◌≡◌, List, cond, ltb, length, get_or}
use Rattle.arith.specs.Releases.{releases_before}
use Rattle.bus_model.specs.declared.Frame.{Frame}
use Rattle.bus_model.specs.Frame.{row}
use Rattle.bus_model.specs.Bounds.{phase, distance}

-- the first release of the frame at tick a or later
abbrev pub next_release : ℕ → Frame → ℕ
next_release a g = phase g + releases_before (phase g) g.period a * g.period

-- how long after tick b that is
abbrev pub wait_from : ℕ → ℕ → Frame → ℕ
wait_from b a g = next_release a g - b

-- what the whole periods in n ticks leave
abbrev pub rest_of : ℕ → Frame → ℕ
rest_of n g = n % g.period

-- the lengths of the releases in the whole periods of the first n ticks: one in each, whatever the alignment
abbrev pub whole_demand : ℕ → Frame → ℕ
whole_demand n g = g.length * (n / g.period)

-- that of the release in the rest, if there is one at alignment a
abbrev pub extra_demand : ℕ → ℕ → Frame → ℕ
extra_demand a n g = cond (ltb (distance g a) (rest_of n g)) g.length 0

-- what f tells of the frame in each of a group's rows stands at its place in an area
pub record Noted (f : Frame → ℕ) (fs : List Frame) (part area : List ℕ) : Type 0 where
  pub size : length area ≡ 64
  pub each : (i : ℕ) → i < length part → get_or area i 0 ≡ f (row fs (get_or part i 0))

-- the length of a frame, its period and the rest stand at place i of an area: of its lengths, of its periods, which are behind these, and of its rests
pub record NotesOf (n : ℕ) (g : Frame) (area : List ℕ) (i : ℕ) : Type 0 where
  pub length : get_or area i 0 ≡ g.length
  pub period : get_or area (64 + i) 0 ≡ g.period
  pub rest : get_or area (128 + i) 0 ≡ rest_of n g

-- those of the frame in each of a group's rows do
pub record Notes (n : ℕ) (fs : List Frame) (part area : List ℕ) : Type 0 where
  pub size : length area ≡ 192
  pub each : (i : ℕ) → i < length part → NotesOf n (row fs (get_or part i 0)) area i
