-- What is proved of the definitions, each file over those before it.
pub mod Lowest
pub mod Bounds
pub mod First
pub mod Layout
pub mod Turns
pub mod Follows
pub mod Read
pub mod Checked
pub mod Answers
pub mod Ticks
