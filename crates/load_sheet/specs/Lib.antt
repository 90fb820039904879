-- A node's load, and the sheet of a table; in proofs/Laws what is proved of them.
pub mod Load
pub mod Sheet
pub mod Cases
pub mod Steps
