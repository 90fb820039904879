-- Following a log line by line, with the starts that its lines tell.
-- A group's first line is instance 0 of its frame, and so tells the group's start. Until then only this matters of the group: no row
-- of it may have waited while the bus was free, nor while a frame ranked below it started. `Progress` keeps the earliest first release
-- that this leaves, so one pass finds the shortest beginning that fails.
use Rattle.std.specs.Prelude.{ℕ, suc, ◌+◌, ◌-◌, max, Bool, true, false, cond, not, ◌&&◌, ◌||◌, List, [], ◌∷◌, map, leb, ltb, eqb, length, get_or, set, replicate, Result, Ok, Err}
use Rattle.arith.specs.Lists.{exists, range}
use Rattle.bus_model.specs.Frame.{row}
use Rattle.bus_model.specs.declared.Frame.{Frame}
use Rattle.bus_log.specs.declared.Line.{Line}
use Rattle.bus_log.specs.declared.Entry.{Entry}
use Rattle.bus_log.specs.declared.Progress.{Progress}
use Rattle.bus_log.specs.Log.{row_of}

-- ---- lines as entries

unfoldable pub entry_of : List ℕ → Line → Entry
entry_of t l = record { frame = row_of t l; start = l.start; release = l.release; length = l.length }

abbrev pub entries_of : List ℕ → List Line → List Entry
entries_of t log = map (entry_of t) log

-- ---- what is known

-- whether group j has a line
abbrev pub is_seen : Progress → ℕ → Bool
is_seen p j = get_or p.seen j false

-- the start of group j
abbrev pub start_of : List ℕ → ℕ → ℕ
start_of starts j = get_or starts j 0

-- the release of row i's next instance, or the earliest that its first one may be
abbrev pub due_of : List ℕ → ℕ → ℕ
due_of due i = get_or due i 0

-- before the first line
abbrev pub begin : Progress
begin = record { free = 0; seen = replicate 17 false; starts = replicate 17 0; due = replicate 64 0 }

-- ---- what a line tells: `own` is its frame, `g` another row's, d what is known of that row's next release

-- the start of its group, where it is the group's first line
abbrev pub told_start : Frame → Entry → ℕ
told_start own e = e.release - own.offset

-- whether it tells the start of g's group
unfoldable pub is_told : Progress → Frame → Frame → Bool
is_told p own g = not (is_seen p own.group) && eqb g.group own.group

-- the first release of g, where it tells that start
abbrev pub told_due : Frame → Entry → Frame → ℕ
told_due own e g = told_start own e + g.offset

-- the next release of g, with what the line tells
unfoldable pub due_with : Progress → Frame → Entry → Frame → ℕ → ℕ
due_with p own e g d = cond (is_told p own g) (told_due own e g) d

-- ---- whether the bus rule allows it

-- A row whose next release is d stands against the line: it waits while the bus is free before the line's start,
-- or waits at the start and is ranked better.
unfoldable pub is_against : ℕ → Frame → Entry → Frame → ℕ → Bool
is_against free own e g d = ltb (max free d) e.start || (leb d e.start && ltb g.priority own.priority)

-- It stands against the line, or, where the line tells its group's start, against one of the lines before.
unfoldable pub hinders : Progress → Frame → Entry → Frame → ℕ → Bool
hinders p own e g d =
    cond (is_told p own g) (ltb (told_due own e g) d || is_against p.free own e g (told_due own e g))
    (cond (is_seen p g.group) (is_against p.free own e g d) false)

unfoldable pub row_hinders : List Frame → Progress → Entry → ℕ → Bool
row_hinders fs p e i = hinders p (row fs e.frame) e (row fs i) (due_of p.due i)

-- The length is one that the frame can have; the start comes when the bus is free and the instance is queued; it is
-- the frame's next instance.
unfoldable pub is_due : Progress → Frame → Entry → Bool
is_due p own e =
    leb 1 e.length
    && (leb e.length own.length
    && (leb p.free e.start
    && (leb e.release e.start
    && eqb (due_with p own e own (due_of p.due e.frame)) e.release)))

-- The frame is in the table; its instance is due; no row hinders it.
unfoldable pub is_allowed : List Frame → Progress → Entry → Bool
is_allowed fs p e =
    ltb e.frame (length fs)
    && (is_due p (row fs e.frame) e
    && not (exists (row_hinders fs p e) (range 0 (length fs))))

-- ---- what is known after it

-- the earliest first release of a row whose group has no line yet
unfoldable pub earliest : ℕ → Frame → Entry → Frame → ℕ → ℕ
earliest free own e g d =
    cond (ltb g.priority own.priority) (e.start + 1)
    (cond (ltb free e.start) e.start d)

-- what is known of the next release of another row
unfoldable pub due_next : Progress → Frame → Entry → Frame → ℕ → ℕ
due_next p own e g d =
    cond (is_told p own g) (told_due own e g)
    (cond (is_seen p g.group) d (earliest p.free own e g d))

unfoldable pub due_after : List Frame → Progress → Entry → ℕ → ℕ
due_after fs p e i =
    cond (eqb i e.frame) (e.release + (row fs e.frame).period)
    (due_next p (row fs e.frame) e (row fs i) (due_of p.due i))

-- the starts
unfoldable pub starts_after : Progress → Frame → Entry → List ℕ
starts_after p own e = cond (is_seen p own.group) p.starts (set p.starts own.group (told_start own e))

unfoldable pub advance : List Frame → Progress → Entry → Progress
advance fs p e =
    record {
      free = e.start + e.length;
      seen = set p.seen (row fs e.frame).group true;
      starts = starts_after p (row fs e.frame) e;
      due = map (due_after fs p e) (range 0 64);
    }

-- ---- a line followed, after n others

unfoldable pub follow_line : List Frame → Progress → ℕ → Entry → Result Progress ℕ
follow_line fs p n e = cond (is_allowed fs p e) (Ok (advance fs p e)) (Err (n + 1))

-- ---- all lines, where n lines were before

-- how a log was followed: 0, or the first line that no starts allow, counted from 1; and what the lines before it say, which shows that
-- a shorter beginning has starts
pub record Followed : Type 0 where
  pub place : ℕ
  pub progress : Progress

unfoldable pub follow : List Frame → Progress → ℕ → List Entry → Followed
follow fs p n [] = record { place = 0; progress = p }
follow fs p n (e ∷ es) =
    elim (is_allowed fs p e) [
      | true ↦ follow fs (advance fs p e) (suc n) es
      | false ↦ record { place = suc n; progress = p }
    ]

-- ---- a log

-- followed from the beginning
unfoldable pub follow_log : List Frame → List ℕ → List Line → Followed
follow_log fs t log = follow fs begin 0 (entries_of t log)

-- the start of group j as it is shown: the last end where it has no line
unfoldable pub start_shown : Progress → ℕ → ℕ
start_shown p j = cond (is_seen p j) (start_of p.starts j) p.free
