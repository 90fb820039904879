-- The theory of the bus rule and the bounds, each file over those before it. docs/MODEL.md leads through it.
-- What a public contract cites stands above; of what is defined here only contracts of inner functions speak.

-- what the hyperperiod is
pub mod Pattern
pub mod Hyperperiod
-- a certified frame meets its claim
pub mod Rows
pub mod Arrivals
pub mod BusyWindow
pub mod Frames
pub mod Alignment
pub mod Work
pub mod Response
pub mod Scenarios
pub mod Cover
pub mod Soundness
pub mod Order
pub mod Levels
pub mod Judged
pub mod Overload
pub mod Existence
-- a schedule without faults
pub mod Uncut
-- what a judgement is in numbers
pub mod Finding
-- the case that breaks a claim
pub mod Cases
pub mod NoCase
-- the last frame's precise bound is reached
pub mod Elapsed
pub mod Meeting
pub mod Reached
pub mod LastRow
-- what the bounds do not read
pub mod Alike
pub mod Answers
-- late starters: frames that begin early have the answers that their offsets give
pub mod Offsets
-- how code finds the bounds
pub mod Iteration
pub mod Visits
pub mod Refine
pub mod Turns
pub mod OpenGroups
pub mod LevelSearch
pub mod FirstCase
pub mod Stairs
