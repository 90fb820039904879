-- The busiest stretch of a log, and the sheet of its rows; below `Theory` what is proved of them.
pub mod Busy
pub mod Sheet
pub mod Refusal
pub mod Answer
pub mod Returns
pub mod Meaning
pub mod Cases
pub mod Steps
pub mod Log
pub mod Theory
