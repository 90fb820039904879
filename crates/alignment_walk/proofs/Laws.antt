-- What is proved of these definitions, for the proofs of the code.
pub mod Parts
pub mod Steps
pub mod Walk
