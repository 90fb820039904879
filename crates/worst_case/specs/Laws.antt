-- What is proved of these definitions.
pub mod Last
pub mod Starts
pub mod Answer
