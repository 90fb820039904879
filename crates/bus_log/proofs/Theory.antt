-- What is proved of the definitions, each file over those before it.
pub mod Search
pub mod Filled
pub mod Clear
pub mod Known
pub mod Step
pub mod Lines
pub mod Entries
pub mod Verdict
pub mod Shown
pub mod Table
pub mod Schedules
