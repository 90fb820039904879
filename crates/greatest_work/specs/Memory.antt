-- What is remembered while the scenarios of one k are gone through: stairs of the groups' greatest works, and an alignment for each group.
use Rattle.std.specs.Prelude.{ℕ, ◌+◌, ◌-◌, ◌*◌, ◌/◌, ◌%◌, ◌≤◌, ◌<◌, min, max, ◌≡◌, Bool, true, ◌&&◌, eqb, leb, length, get_or}
use mathlib.Core.List.{List, Memᴰ as Mem}
use Rattle.bus_model.specs.declared.Frame.{Frame}
use Rattle.bus_model.specs.declared.Choice.TheVariants.{Any}
use Rattle.bus_model.specs.Pattern.{of_group}
use Rattle.bus_model.specs.Valid.{Valid}
use Rattle.bus_model.specs.Bounds.{ahead, alignments, or_empty, group_work}

-- ---- stairs as numbers

-- a number holds four smaller ones, each but the first below this
abbrev pub unit : ℕ
unit = 1048576

-- the number that holds a group, counted from 0, two lengths and a work
abbrev pub packed : ℕ → ℕ → ℕ → ℕ → ℕ
packed j low high w = ((j * unit + low) * unit + high) * unit + w

-- these are read again
abbrev pub group_in : ℕ → ℕ
group_in v = v / unit / unit / unit

abbrev pub low_in : ℕ → ℕ
low_in v = v / unit / unit % unit

abbrev pub high_in : ℕ → ℕ
high_in v = v / unit % unit

abbrev pub work_in : ℕ → ℕ
work_in v = v % unit

-- whether the stair v is one of group j + 1 and has length n on it
abbrev pub is_on : ℕ → ℕ → ℕ → Bool
is_on v j n = eqb (group_in v) j && (leb (low_in v) n && leb n (high_in v))

-- whether it is one of group j + 1 with this work
abbrev pub is_of : ℕ → ℕ → ℕ → Bool
is_of v j w = eqb (group_in v) j && eqb (work_in v) w

-- the stair with length n on it too
abbrev pub widened : ℕ → ℕ → ℕ
widened v n = packed (group_in v) (min (low_in v) n) (max (high_in v) n) (work_in v)

-- ---- what they say

-- the greatest work of group j in the first n ticks
abbrev pub greatest_work : List Frame → Frame → ℕ → ℕ → ℕ
greatest_work fs k j n = group_work (of_group (ahead fs k) j) (alignments fs k j) Any n

-- from its one length to the other the greatest work is what the stair v says
pub record Holds (fs : List Frame) (k : Frame) (v : ℕ) : Type 0 where
  pub some : low_in v ≤ high_in v
  pub is : (n : ℕ) → low_in v ≤ n → n ≤ high_in v → greatest_work fs k (group_in v + 1) n ≡ work_in v

-- 512 stairs are remembered, and for each group one more than an alignment, or 0
pub record Remembered (fs : List Frame) (k : Frame) (memory : List ℕ) : Type 0 where
  pub size : length memory ≡ 528
  pub stairs : (s : ℕ) → s < 512 → Holds fs k (get_or memory s 0)
  pub guess : (j : ℕ) → j < 16 → 0 < get_or memory (512 + j) 0 → Mem (get_or memory (512 + j) 0 - 1) (or_empty (alignments fs k (j + 1)))
  pub guess_small : (j : ℕ) → j < 16 → get_or memory (512 + j) 0 ≤ 4294967296

-- one of these stairs has length n of group j + 1 on it, and says w
pub record Told (memory : List ℕ) (j n w : ℕ) : Type 0 where
  pub place : ℕ
  pub inside : place < 512
  pub on : is_on (get_or memory place 0) j n ≡ true
  pub is : w ≡ work_in (get_or memory place 0)

-- what was remembered rightly still is, if that is the greatest work of group j + 1 in the first n ticks
abbrev pub RememberedWith : ℕ → ℕ → ℕ → List ℕ → List ℕ → Type 0
RememberedWith j n w before after = (fs : List Frame) (k : Frame) → Valid fs → greatest_work fs k (j + 1) n ≡ w → Remembered fs k before → Remembered fs k after
