-- The table as the searches read it: the rows, and beside them what is prepared once for a judged frame k.
use Rattle.std.specs.Prelude.{◌≡◌, ℕ, ◌+◌, ◌*◌, ◌/◌, ◌<◌, ◌≤◌, Bool, List, map, length, take, drop, slice_index, Option, Some, None}
use mathlib.Core.List.{Memᴰ as Mem}
use Rattle.arith.specs.Lists.{keep, exists, range}
use Rattle.bus_model.specs.declared.Frame.{Frame}
use Rattle.bus_model.specs.Frame.{row}
use Rattle.bus_model.specs.Pattern.{of_group, hyperperiod}
use Rattle.bus_model.specs.Valid.{Valid}
use Rattle.bus_model.specs.Bounds.{ahead, is_released_at}
use Rattle.bus_model.specs.Theory.Turns.{turn}
use Rattle.table_checks.specs.Columns.{columns, field, group_column, period_column, offset_column}

-- ---- limits

-- the limits of a frame that keep the sums small
pub record Fine (g : Frame) : Type 0 where
  pub group-low : 1 ≤ g.group
  pub group-high : g.group ≤ 16
  pub priority-high : g.priority < 4294967296
  pub length-low : 1 ≤ g.length
  pub length_high : g.length ≤ 400
  pub period-low : 1 ≤ g.period
  pub period-high : g.period ≤ 1000000

-- those of a table that was accepted
pub record FineTable (fs : List Frame) : Type 0 where
  pub few : length fs ≤ 64
  pub valid : Valid fs
  pub fine : (i : ℕ) → i < length fs → Fine (row fs i)
  pub hyper : (j : ℕ) → 1 ≤ j → j ≤ 16 → hyperperiod (of_group fs j) ≤ 1000000

-- k is the frame of a row
pub record InTable (fs : List Frame) (k : Frame) : Type 0 where
  pub at : ℕ
  pub inside : at < length fs
  pub is : k ≡ row fs at

-- ---- the area

-- The first 64 numbers are the groups', four each: group i + 1 has its frames ahead listed from this place on,
abbrev pub first_in : List ℕ → ℕ → ℕ
first_in p i = slice_index p (4 * i)

-- so many,
abbrev pub count_in : List ℕ → ℕ → ℕ
count_in p i = slice_index p (4 * i + 1)

-- they look the same again after so many ticks,
abbrev pub cycle_in : List ℕ → ℕ → ℕ
cycle_in p i = slice_index p (4 * i + 2)

-- and this is the hyperperiod of all its frames.
abbrev pub hyper_in : List ℕ → ℕ → ℕ
hyper_in p i = slice_index p (4 * i + 3)

-- The next 64 numbers are rows; those of group i + 1.
abbrev pub part_of : List ℕ → ℕ → List ℕ
part_of p i = take (count_in p i) (drop (64 + first_in p i) p)

-- From the 128th number on each row has three: the priority of its frame, its length, and an inverse of its period, of which nothing is promised.
-- The frame in row i, by these numbers:
unfoldable pub frame_by : List ℕ → List ℕ → ℕ → Frame
frame_by rows numbers i =
    record {
      group = field rows i group_column;
      priority = slice_index numbers (3 * i);
      length = slice_index numbers (3 * i + 1);
      period = field rows i period_column;
      offset = field rows i offset_column;
    }

unfoldable pub table_by : List ℕ → List ℕ → List Frame
table_by rows numbers = map (frame_by rows numbers) (range 0 (length rows / columns))

-- the table by rows and area
unfoldable pub table_of : List ℕ → List ℕ → List Frame
table_of rows p = table_by rows (drop 128 p)

-- ---- what is promised of it

-- the numbers of the rows are filled in: the table is within the limits
pub record Filled (rows p : List ℕ) : Type 0 where
  pub size : length p ≡ 320
  pub table : FineTable (table_of rows p)

-- the frames in some rows
abbrev pub frames_in : List Frame → List ℕ → List Frame
frames_in fs part = map (row fs) part

-- the rows of each group's frames ahead of k, and after how many ticks these and all its frames look the same again
pub record ByGroup (fs : List Frame) (k : Frame) (p : List ℕ) : Type 0 where
  pub inside : (i : ℕ) → i < 16 → first_in p i + count_in p i ≤ 64
  pub part : (i : ℕ) → i < 16 → frames_in fs (part_of p i) ≡ of_group (ahead fs k) (i + 1)
  pub cycle : (i : ℕ) → i < 16 → cycle_in p i ≡ turn fs k (i + 1)
  pub hyper : (i : ℕ) → i < 16 → hyper_in p i ≡ hyperperiod (of_group fs (i + 1))

-- both
pub record Prepared (rows p : List ℕ) (k : Frame) : Type 0 where
  pub filled : Filled rows p
  pub by-group : ByGroup (table_of rows p) k p

-- some rows, each of a frame within the limits
pub record FinePart (rows p part : List ℕ) : Type 0 where
  pub filled : Filled rows p
  pub few : length part ≤ 64
  pub fine : (g : Frame) → Mem g (frames_in (table_of rows p) part) → Fine g

-- ---- their instants

-- a is an instant at which one of the frames is released
abbrev pub is_instant : List Frame → ℕ → Bool
is_instant gs a = exists (is_released_at a) gs

-- those instants below e, rising
abbrev pub instants_in : List Frame → ℕ → List ℕ
instants_in gs e = keep (is_instant gs) (range 0 e)

-- what a search below e found, or e where it found nothing
unfoldable pub or_end : ℕ → Option ℕ → ℕ
or_end e (Some m) = m
or_end e None = e
