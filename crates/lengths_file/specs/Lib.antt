-- The file of the lengths; in proofs/Laws what is proved of it.
pub mod Input
pub mod Lengths
pub mod Cases
