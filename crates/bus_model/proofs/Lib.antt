pub mod Theory
pub mod Examples
