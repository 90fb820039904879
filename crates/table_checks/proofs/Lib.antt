-- Laws that only the proofs of this crate use.
pub mod ChecksLaws
pub mod Laws
