-- What is proved of these definitions, for the proofs of the code.
pub mod Prepared
pub mod Fine
pub mod Groups
pub mod Placed
pub mod Longest
pub mod Placing
