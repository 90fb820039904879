-- Small logs: what following them gives.
use Rattle.std.specs.Prelude.{ℕ, ◌≡◌, refl, List, [], ◌∷◌}
use Rattle.arith.specs.Lists.{exists, range}
use Rattle.arith.specs.Least.{least}
use Rattle.table_checks.specs.Frames.{standard_lengths, frames_of, frame_at, priority_of, largest_length}
use Rattle.bus_log.specs.declared.Line.{Line}
use Rattle.bus_log.specs.Log.{row_of, found_or, is_named}
use Rattle.bus_log.specs.Follow.{Followed, follow_log, start_shown, follow, is_allowed, is_due, due_with, is_told, row_hinders, hinders, is_against, due_next, due_after, earliest, starts_after, advance, entry_of}

-- identifier 5 of group 1 at offset 0, and identifier 3 of group 2, which goes first, at offset 10
unfoldable table : List ℕ
table = 1 ∷ 1 ∷ 5 ∷ 11 ∷ 0 ∷ 100 ∷ 0 ∷ 100 ∷ 2 ∷ 2 ∷ 3 ∷ 11 ∷ 0 ∷ 100 ∷ 10 ∷ 100 ∷ []

-- the same frames of two nodes that start together, the second one beginning late, at offset 110
unfoldable joint : List ℕ
joint = 1 ∷ 1 ∷ 5 ∷ 11 ∷ 0 ∷ 100 ∷ 0 ∷ 100 ∷ 2 ∷ 1 ∷ 3 ∷ 11 ∷ 0 ∷ 100 ∷ 110 ∷ 100 ∷ []

abbrev line : ℕ → ℕ → ℕ → ℕ → Line
line start identifier release length = record { start = start; identifier = identifier; kind = 11; release = release; length = length }

-- how a log is followed
unfoldable followed : List ℕ → List Line → Followed
unfolding follow_log follow is_allowed is_due due_with is_told row_hinders hinders is_against due_next due_after earliest starts_after advance entry_of row_of found_or is_named least exists range frames_of frame_at priority_of largest_length table joint
followed t log = follow_log (frames_of standard_lengths t) t log

-- the shortest beginning that fails, or 0
unfoldable place_of : List Line → ℕ
unfolding followed
place_of log = (followed table log).place

unfoldable place_in : List Line → ℕ
unfolding followed
place_in log = (followed joint log).place

-- the start of group j that is shown
unfoldable shown : List Line → ℕ → ℕ
unfolding followed start_shown
shown log j = start_shown (followed table log).progress j

empty : place_of [] ≡ 0
unfolding place_of
empty = refl

-- both groups start at 0
together : place_of (line 0 5 0 10 ∷ line 10 3 10 10 ∷ []) ≡ 0
unfolding place_of
together = refl

-- a group with no line is shown with the last end
alone : shown (line 7 5 7 10 ∷ []) 2 ≡ 17
unfolding shown
alone = refl

-- the second line tells that group 2 started at 5: its frame was queued at 15, while the bus was free until 20
waited : place_of (line 20 5 20 10 ∷ line 30 3 15 10 ∷ []) ≡ 2
unfolding place_of
waited = refl

-- queued at 20, it would have gone first
passed_over : place_of (line 20 5 20 10 ∷ line 30 3 20 10 ∷ []) ≡ 2
unfolding place_of
passed_over = refl

-- queued at 21, it waits for its turn
queued : place_of (line 20 5 20 10 ∷ line 30 3 21 10 ∷ []) ≡ 0
unfolding place_of
queued = refl

-- an offset beyond the queueing, a length beyond the largest, a frame that is not in the table
no_start : place_of (line 9 3 9 10 ∷ []) ≡ 1
unfolding place_of
no_start = refl

too_long : place_of (line 0 5 0 56 ∷ []) ≡ 1
unfolding place_of
too_long = refl

unknown : place_of (line 0 4 0 10 ∷ []) ≡ 1
unfolding place_of
unknown = refl

-- one line tells the start of the whole group: its frame at offset 110 is queued at 120, and again at 220
one-start : place_in (line 10 5 10 10 ∷ line 110 5 110 10 ∷ line 120 3 120 10 ∷ line 210 5 210 10 ∷ line 220 3 220 10 ∷ []) ≡ 0
unfolding place_in
one-start = refl

-- queued at 121, its node would have started alone
own-start : place_in (line 10 5 10 10 ∷ line 110 5 110 10 ∷ line 121 3 121 10 ∷ []) ≡ 3
unfolding place_in
own-start = refl

-- its first instance is not queued a period earlier
not-before-offset : place_in (line 10 5 10 10 ∷ line 20 3 20 10 ∷ []) ≡ 2
unfolding place_in
not-before-offset = refl
