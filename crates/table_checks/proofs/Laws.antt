-- What is proved of the definitions, each file over those before it.
pub mod First
pub mod Limits
pub mod Rank
pub mod Lengths
pub mod Sizes
pub mod Accepted
pub mod SecondGroup
pub mod Before
pub mod Ungrouped
pub mod Returns
pub mod OneKind
pub mod Offsets
pub mod LastFrame
