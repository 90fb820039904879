-- The definitions in the request's order; in proofs/Laws what is proved of them.
pub mod DataFrame
pub mod Crc
pub mod Stuffing
pub mod FrameLength
pub mod Steps
pub mod Cases
