-- What it means that a log is accepted (document 02, request 10).
-- `t` holds the table's numbers, in which a line's frame is found by identifier and kind, and `fs` its frames.
use Rattle.std.specs.Prelude.{ℕ, ◌+◌, ◌-◌, ◌/◌, ◌≤◌, ◌<◌, ◌≡◌, Bool, cond, ◌&&◌, eqb, length, get_or, take, Option, Some, None}
use mathlib.Core.List.{List, [], ◌∷◌, map, Memᴰ as Mem}
use Rattle.arith.specs.Lists.{range}
use Rattle.arith.specs.Least.{least}
use Rattle.bus_model.specs.Frame.{row}
use Rattle.bus_model.specs.Release.{release}
use Rattle.bus_model.specs.Bus.{Transmission, Schedule}
use Rattle.bus_model.specs.declared.Frame.{Frame}
use Rattle.bus_model.specs.declared.Faults.TheVariants.{Never}
use Rattle.table_checks.specs.Columns.{field, columns, identifier_column, kind_column}
use Rattle.bus_log.specs.declared.Line.{Line}

-- A line shows a transmission: of the frame with its identifier and kind, of the instance that was queued when it says,
-- with its start and length.
pub record Shows (fs : List Frame) (t : List ℕ) (starts : ℕ → ℕ) (l : Line) (x : Transmission) : Type 0 where
  pub identifier : field t x.frame identifier_column ≡ l.identifier
  pub kind : field t x.frame kind_column ≡ l.kind
  pub queueing : release starts (row fs x.frame) x.instance ≡ l.release
  pub start : x.start ≡ l.start
  pub length : x.length ≡ l.length

-- each line shows one, in order
unfoldable pub ShowsAll : List Frame → List ℕ → (ℕ → ℕ) → List Line → List Transmission → Type 0
ShowsAll fs t starts [] [] = Unit {0}
ShowsAll fs t starts [] (x ∷ xs) = ⊥
ShowsAll fs t starts (l ∷ ls) [] = ⊥
ShowsAll fs t starts (l ∷ ls) (x ∷ xs) = Shows fs t starts l x × ShowsAll fs t starts ls xs

-- the last end of lines, or `e` where there is none
unfoldable pub end_from : ℕ → List Line → ℕ
end_from e [] = e
end_from e (l ∷ ls) = end_from (l.start + l.length) ls

-- "the last end", 0 in an empty log
abbrev pub last_end : List Line → ℕ
last_end log = end_from 0 log

-- with these starts the log is "the beginning of a schedule that the table and bus rule allow, up to the last end"
unfoldable pub IsBeginning : List Frame → List ℕ → (ℕ → ℕ) → List Line → Type 0
IsBeginning fs t starts log = (xs : List Transmission) × ShowsAll fs t starts log xs × Schedule Never fs starts (last_end log) xs

-- "accepted exactly if group starts exist"
unfoldable pub AcceptedLog : List Frame → List ℕ → List Line → Type 0
AcceptedLog fs t log = (starts : ℕ → ℕ) × IsBeginning fs t starts log

-- "the shortest beginning that fails" has m lines
pub record ShortestFailing (fs : List Frame) (t : List ℕ) (log : List Line) (m : ℕ) : Type 0 where
  pub within : m ≤ length log
  pub fails : AcceptedLog fs t (take m log) → ⊥
  pub shorter : (n : ℕ) → n < m → AcceptedLog fs t (take n log)

-- ---- the starts that are shown

-- group j has a line: one with identifier and kind of one of its frames
pub record HasLine (fs : List Frame) (t : List ℕ) (log : List Line) (j : ℕ) : Type 0 where
  pub line : Line
  pub listed : Mem line log
  pub frame : ℕ
  pub inside : frame < length fs
  pub identifier : field t frame identifier_column ≡ line.identifier
  pub kind : field t frame kind_column ≡ line.kind
  pub group : (row fs frame).group ≡ j

-- the start of group j among those of groups 1 to 16
abbrev pub start_in : List ℕ → ℕ → ℕ
start_in shown j = get_or shown (j - 1) 0

-- "The starts of groups 1 to 16 are shown": the log is a beginning with them, and a group that has a line has no other start;
-- "a group with no line is shown with the last end as its start".
pub record ShownStarts (fs : List Frame) (t : List ℕ) (log : List Line) (shown : List ℕ) : Type 0 where
  pub count : length shown ≡ 16
  pub serve : IsBeginning fs t (start_in shown) log
  pub only : (starts : ℕ → ℕ) → IsBeginning fs t starts log → (j : ℕ) → HasLine fs t log j → starts j ≡ start_in shown j
  pub silent : (j : ℕ) → 1 ≤ j → j ≤ 16 → (HasLine fs t log j → ⊥) → start_in shown j ≡ last_end log

-- ---- as they are computed

-- the row with the line's identifier and kind, or the number of rows where there is none
unfoldable pub is_named : List ℕ → Line → ℕ → Bool
is_named t l i = eqb (field t i identifier_column) l.identifier && eqb (field t i kind_column) l.kind

unfoldable pub found_or : ℕ → Option ℕ → ℕ
found_or n (Some i) = i
found_or n None = n

unfoldable pub row_of : List ℕ → Line → ℕ
row_of t l = found_or (length t / columns) (least (is_named t l) (length t / columns) 0)

-- the start of group j that its first line tells, instance 0 of its frame; `e` where it has no line
unfoldable pub start_from : List Frame → List ℕ → ℕ → ℕ → List Line → ℕ
start_from fs t e j [] = e
start_from fs t e j (l ∷ ls) =
    let g = row fs (row_of t l) in
    let rest = start_from fs t e j ls in
    cond (eqb g.group j) (l.release - g.offset) rest

unfoldable pub shown_start : List Frame → List ℕ → List Line → ℕ → ℕ
shown_start fs t log j = start_from fs t (last_end log) j log

-- of groups 1 to 16
unfoldable pub shown_starts : List Frame → List ℕ → List Line → List ℕ
shown_starts fs t log = map (shown_start fs t log) (range 1 16)
