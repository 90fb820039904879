-- Demand 3 applied to document 01's whole case, as the contract of `row_judgement::judge` says it: frame 32 has verdict 1 and
-- frame 64 has verdict 2, so both meet their claims in every schedule, and there are schedules. Frame 64 ranks last, and
-- no claim below its bound is met. A late starter meets its claim too.
use Rattle.std.specs.Prelude.{ℕ, ◌≤◌, ◌≡◌, refl, ◌↔◌, List, pos, replicate, Ok}
use Rattle.std.proofs.Common.{arith}
use Rattle.bus_model.specs.declared.Frame.{Frame}
use Rattle.bus_model.specs.declared.Outcome.TheVariants.{CertifiedApproximate, CertifiedPrecise}
use Rattle.bus_model.specs.Bus.{Transmission, Schedule, Finished, MeetsClaim}
use Rattle.bus_model.specs.Judgement.{certifies}
use Rattle.bus_model.specs.Valid.{Valid, Early}
use Rattle.bus_model.specs.Worst.{RanksLast, for_group, Longest, Responds}
use Rattle.bus_model.proofs.Theory.Existence.{longest-schedule}
use Rattle.bus_model.proofs.Theory.Reached.{last-reached, last-least}
use Rattle.bus_model.proofs.Theory.LastRow.{last-row, early-of}
use Rattle.bus_model.proofs.Examples.Late.{frame-64-late, frame-64-due}
use Rattle.bus_model.specs.declared.Faults.TheVariants.{Never}
use Rattle.table_checks.specs.Frames.{standard_lengths, frames_of}
use Rattle.table_checks.specs.Checks.{Accepted}
use Rattle.table_checks.proofs.Laws.Lengths.{standard-loadable}
use Rattle.table_checks.proofs.Laws.Accepted.{accepted-valid}
use Rattle.row_judgement.specs.Judge.{judge_checked, judge_row, certified}
use Rattle.row_judgement.specs.Laws.Judged.{judged-meets}
use Rattle.starred_examples.specs.Compute.{everything}
use Rattle.starred_examples.specs.Cases.{listing, starting}

-- ---- verdict 1

frame-32-judged : judge_row standard_lengths listing 1 ≡ Ok (record { outcome = CertifiedApproximate 189; bound = 189; margin = pos 0 })
unfolding everything judge_row judge_checked
frame-32-judged = refl

-- Frame 32 meets its claim.
pub frame-32-meets : MeetsClaim Never (frames_of standard_lengths listing) 1 189
unfolding everything certified certifies
frame-32-meets = judged-meets standard_lengths listing 1 (rw frame-32-judged tt)

-- ---- verdict 2

frame-64-judged : judge_row standard_lengths listing 3 ≡ Ok (record { outcome = CertifiedPrecise 200; bound = 200; margin = pos 0 })
unfolding everything judge_row judge_checked
frame-64-judged = refl

-- Frame 64 meets its claim.
pub frame-64-meets : MeetsClaim Never (frames_of standard_lengths listing) 3 200
unfolding everything certified certifies
frame-64-meets = judged-meets standard_lengths listing 3 (rw frame-64-judged tt)

-- So where all groups start at tick 0, it is finished in every schedule up to 200,
pub frame-64-finished : (xs : List Transmission) → Schedule Never (frames_of standard_lengths listing) (λ j. 0) 200 xs → Finished xs 3 0 200
unfolding everything
frame-64-finished = frame-64-due frame-64-meets

-- and of 199 the same could not be said.
pub frame-64-misses : ¬ MeetsClaim Never (frames_of standard_lengths listing) 3 199
unfolding everything
frame-64-misses = frame-64-late

-- ---- schedules

-- The table is accepted.
listing-accepted : Accepted listing
unfolding everything
listing-accepted = refl

listing-valid : Valid (frames_of standard_lengths listing)
listing-valid = accepted-valid listing listing-accepted standard_lengths standard-loadable

-- There are schedules in which this says something.
pub listing-runs : (starts : ℕ → ℕ) (T : ℕ) → (xs : List Transmission) × Schedule Never (frames_of standard_lengths listing) starts T xs × Longest (frames_of standard_lengths listing) xs
listing-runs = longest-schedule listing-valid

-- ---- nothing shaved off

-- the table's frames
abbrev table : List Frame
table = frames_of standard_lengths listing

-- Its offsets are below their periods, and frame 64 ranks last.
listing-early : Early table
unfolding everything
listing-early = early-of table refl

frame-64-last : RanksLast table 3
unfolding everything
frame-64-last = (last-row table (omega arith)).1

-- Frame 64 meets the claims from 200 on, and no others.
pub frame-64-least : (claim : ℕ) → MeetsClaim Never table 3 claim ↔ (200 ≤ claim)
unfolding everything
frame-64-least = last-least listing-valid {k = 3} (omega arith) listing-early frame-64-last 200 (λ e. omega arith)

-- Where all groups start at tick 0 and all lengths are largest, the response time of its first instance is 200.
pub frame-64-reached : Responds table (for_group (replicate 16 0)) 3 0 200
unfolding everything
frame-64-reached = last-reached listing-valid {k = 3} (omega arith) listing-early frame-64-last 200 (λ e. omega arith)

-- ---- a late starter

late-judged : judge_row standard_lengths (starting 1000) 0 ≡ Ok (record { outcome = CertifiedApproximate 135; bound = 135; margin = pos 0 })
unfolding everything judge_row judge_checked
late-judged = refl

-- With offset 1000 and period 1000 the frame meets its claim in every schedule; it is first released 1000 ticks after its group's start.
pub late_meets : MeetsClaim Never (frames_of standard_lengths (starting 1000)) 0 135
unfolding everything certified certifies
late_meets = judged-meets standard_lengths (starting 1000) 0 (rw late-judged tt)
