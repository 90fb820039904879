-- The starred examples of document 01, with its lengths: one list of cases, one theorem. Late starters (document 02, 7) have a list of their own.
-- All hold by computation but one, whose search would take a million steps: there a law tells that a frame longer than its period has no window.
use Rattle.std.specs.Prelude.{ℕ, ◌+◌, ◌*◌, ◌≡◌, refl, List, [], ◌∷◌, Bool, true, false, ℤ, pos, negsuc}
use Rattle.std.proofs.Common.{ap, arith}
use Rattle.bus_model.specs.declared.Judgement.{Judgement}
use Rattle.bus_model.specs.Frame.{row}
use Rattle.bus_model.specs.Pattern.{of_group, pattern_releases}
use Rattle.bus_model.specs.Bounds.{approximate_bound, precise_bound, scenario_count}
use Rattle.bus_model.specs.Judgement.{too_many_scenarios, judge, verdict}
use Rattle.bus_model.proofs.Theory.Overload.{overloaded-judged}
use Rattle.bus_model.specs.declared.Faults.TheVariants.{Never}
use Rattle.table_checks.specs.Frames.{standard_lengths, frames_of}
use Rattle.table_checks.specs.Refusal.{check_returns}
use Rattle.table_checks.specs.Checks.{rows_check}
use Rattle.table_checks.proofs.Laws.Lengths.{standard-loadable}
use Rattle.table_checks.proofs.Laws.Accepted.{accepted-valid}
use Rattle.table_checks.proofs.Laws.Offsets.{column_check_with, columns_check_with, line_check_with, lines_check_with, table_check_with, rows_check_with, former_limit}
use Rattle.starred_examples.specs.Compute.{everything}

-- ---- the tables, row by row

-- the whole case of document 01's listing: identifiers 16, 32, 48 and 64
abbrev pub listing : List ℕ
listing =
    1 ∷ 1 ∷ 16 ∷ 11 ∷ 8 ∷ 1000 ∷ 0 ∷ 300
    ∷ 1 ∷ 1 ∷ 32 ∷ 11 ∷ 0 ∷ 1000 ∷ 200 ∷ 189
    ∷ 1 ∷ 1 ∷ 48 ∷ 11 ∷ 8 ∷ 1000 ∷ 300 ∷ 198
    ∷ 2 ∷ 2 ∷ 64 ∷ 11 ∷ 1 ∷ 1000 ∷ 0 ∷ 200
    ∷ []

-- one frame of kind 11 with 8 payload bytes
abbrev pub alone : ℕ → List ℕ
alone p = 1 ∷ 1 ∷ 0 ∷ 11 ∷ 8 ∷ p ∷ 0 ∷ 135 ∷ []

-- one such frame of period 1000, with an offset
abbrev pub starting : ℕ → List ℕ
starting o = 1 ∷ 1 ∷ 0 ∷ 11 ∷ 8 ∷ 1000 ∷ o ∷ 135 ∷ []

-- two frames of a group, of periods 1 and p
abbrev pub dense : ℕ → List ℕ
dense p = 1 ∷ 1 ∷ 0 ∷ 11 ∷ 0 ∷ 1 ∷ 0 ∷ 1000 ∷ 1 ∷ 1 ∷ 1 ∷ 11 ∷ 0 ∷ p ∷ 0 ∷ 1000 ∷ []

-- frames of group j that are released at 256 instants of a hyperperiod of 510: every second one, and instant 1
abbrev pub crowd : ℕ → List ℕ → List ℕ
crowd j rest = j ∷ j ∷ (2 * j) ∷ 11 ∷ 0 ∷ 2 ∷ 0 ∷ 1000 ∷ j ∷ j ∷ (2 * j + 1) ∷ 11 ∷ 0 ∷ 510 ∷ 1 ∷ 1000 ∷ rest

-- frames of group j that are released at 2 instants
abbrev pub pair : ℕ → List ℕ → List ℕ
pair j rest = j ∷ j ∷ (2 * j) ∷ 11 ∷ 0 ∷ 10 ∷ 0 ∷ 1000 ∷ j ∷ j ∷ (2 * j + 1) ∷ 11 ∷ 0 ∷ 10 ∷ 5 ∷ 1000 ∷ rest

-- ---- the cases

-- a statement about a table, row i of it, or group j of it
pub data Case : Type 0 where
  approximate : (rows : List ℕ) (i bound : ℕ) → Case
  precise : (rows : List ℕ) (i bound : ℕ) → Case
  judged : (rows : List ℕ) (i claim number bound : ℕ) (margin : ℤ) → Case
  count : (rows : List ℕ) (i scenarios : ℕ) (too_many : Bool) → Case
  releases : (rows : List ℕ) (j many : ℕ) → Case
  checked : (rows : List ℕ) (number place : ℕ) → Case

-- a judgement by its numbers
pub record Numbers : Type 0 where
  pub number : ℕ
  pub bound : ℕ
  pub margin : ℤ

unfoldable pub numbers : Judgement → Numbers
numbers j = record { number = verdict j.outcome; bound = j.bound; margin = j.margin }

-- what each case says
unfoldable pub Holds : Case → Type 0
Holds (approximate rows i b) = approximate_bound Never (frames_of standard_lengths rows) (row (frames_of standard_lengths rows) i) ≡ b
Holds (precise rows i b) = precise_bound Never (frames_of standard_lengths rows) (row (frames_of standard_lengths rows) i) ≡ b
Holds (judged rows i claim v b m) = numbers (judge Never (frames_of standard_lengths rows) (row (frames_of standard_lengths rows) i) claim) ≡ record { number = v; bound = b; margin = m }
Holds (count rows i n many) = (scenario_count (frames_of standard_lengths rows) (row (frames_of standard_lengths rows) i) ≡ n) × (too_many_scenarios (frames_of standard_lengths rows) (row (frames_of standard_lengths rows) i) ≡ many)
Holds (releases rows j n) = pattern_releases (of_group (frames_of standard_lengths rows) j) ≡ n
Holds (checked rows n p) = check_returns (rows_check rows) ≡ record { number = n; place = p }

unfoldable pub AllHold : List Case → Type 0
AllHold [] = Unit {0}
AllHold (c ∷ cs) = Holds c × AllHold cs

-- frame 64 and its claims; frames 16, 32 and 48; one frame of period 135 and of period 134; periods 1 and 255, 1 and 256 in a
-- group; groups with 256 and 256 alignments, and with 256, 256 and 2
unfoldable pub cases : List Case
cases =
    approximate listing 3 255
    ∷ precise listing 3 200
    ∷ judged listing 3 199 3 200 (negsuc 0)
    ∷ judged listing 3 200 2 200 (pos 0)
    ∷ judged listing 3 255 1 255 (pos 0)
    ∷ precise listing 0 269
    ∷ precise listing 1 189
    ∷ precise listing 2 199
    ∷ judged (alone 135) 0 135 1 135 (pos 0)
    ∷ judged (alone 134) 0 135 11 0 (pos 0)
    ∷ releases (dense 255) 1 256
    ∷ checked (dense 255) 0 0
    ∷ releases (dense 256) 1 257
    ∷ checked (dense 256) 7 1
    ∷ count (crowd 1 (crowd 2 [])) 3 65536 false
    ∷ count (crowd 1 (crowd 2 (pair 3 []))) 5 131072 true
    ∷ []

-- ---- a frame longer than its period

-- One frame of period 134 is longer than its period, and has no window.
too_long : numbers (judge Never (frames_of standard_lengths (alone 134)) (row (frames_of standard_lengths (alone 134)) 0) 135) ≡ record { number = 11; bound = 0; margin = pos 0 }
unfolding numbers everything
too_long = ap numbers (overloaded-judged (accepted-valid (alone 134) refl standard_lengths standard-loadable) {k = 0} (omega arith) Never 135 (omega arith))

-- ---- the theorem

pub all_hold : AllHold cases
unfolding cases AllHold Holds numbers everything
all_hold = (refl, (refl, (refl, (refl, (refl, (refl, (refl, (refl, (refl, (too_long, (refl, (refl, (refl, (refl, ((refl, refl), ((refl, refl), tt))))))))))))))))

-- ---- late starters

-- document 01's edge example, offset 1000 with period 1000, is accepted; so is the greatest offset, and one more is 4; a late frame is
-- judged as one that starts at once
unfoldable pub late : List Case
late =
    checked (starting 1000) 0 0
    ∷ checked (starting 1_000_000) 0 0
    ∷ checked (starting 1_000_001) 4 1
    ∷ judged (starting 0) 0 135 1 135 (pos 0)
    ∷ judged (starting 4000) 0 135 1 135 (pos 0)
    ∷ []

pub late-hold : AllHold late
unfolding late AllHold Holds numbers everything
late-hold = (refl, (refl, (refl, (refl, (refl, tt)))))

-- With document 01's limit the edge example was 4.
pub formerly-refused : check_returns (rows_check_with former_limit (starting 1000)) ≡ record { number = 4; place = 1 }
unfolding rows_check_with table_check_with lines_check_with line_check_with columns_check_with column_check_with everything
formerly-refused = refl
