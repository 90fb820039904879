-- What is proved of these definitions, for the proofs of the code.
pub mod Memory
pub mod Guesses
