-- What is proved of the definitions, each file over those before it.
pub mod Loads
pub mod Lines
pub mod Sheet
pub mod Ungrouped
