-- What is proved of these definitions.
pub mod Small
pub mod Encoding
pub mod Listing
pub mod Input
pub mod Answers
pub mod Counted
pub mod FaultsListing
pub mod SimulateEntry
pub mod Before
pub mod Ungrouped
pub mod Offsets
pub mod ExplainEntry
pub mod WorstEntry
pub mod LogEntry
