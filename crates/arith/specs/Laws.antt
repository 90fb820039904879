-- The laws of this crate's definitions, one file for each group of them.
-- No definition that a bound or a contract cites stands below here.
pub mod Tests
pub mod Below
pub mod Members
pub mod Maps
pub mod Sums
pub mod Combinations
pub mod Least
pub mod Walks
pub mod Gathering
pub mod Releases
pub mod Multiples
pub mod Signed
pub mod Overwriting
pub mod Lines
