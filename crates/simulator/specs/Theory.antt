-- Definitions that contracts of inner functions name; what is proved of them is in proofs/Theory.
pub mod Bounds
pub mod First
