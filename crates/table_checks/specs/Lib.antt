-- The definitions in document 01's order; in proofs/Laws what is proved of them.
pub mod Columns
pub mod Frames
pub mod Refusal
pub mod Checks
pub mod Returns
pub mod Steps
pub mod Table
