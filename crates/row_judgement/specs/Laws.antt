-- What is proved of these definitions.
pub mod Judged
pub mod Returns
pub mod Ungrouped
pub mod Offsets
pub mod Explain
