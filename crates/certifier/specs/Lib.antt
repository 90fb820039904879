-- The numbers and the listing that are answered; in proofs/Laws what is proved of them.
pub mod Listing
pub mod Encode
pub mod FrameEntry
pub mod ExplainEntry
pub mod FaultsListing
pub mod FaultsEntry
pub mod WorstEntry
pub mod LogEntry
pub mod Steps
pub mod SimulateEntry
pub mod Reply
