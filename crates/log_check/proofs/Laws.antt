-- What is proved of a log that a loop follows.
pub mod Stops
