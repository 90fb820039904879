-- The examples, those of groups, and demand 3 applied to document 01's whole case and to a late starter.
pub mod Compute
pub mod Cases
pub mod Groups
pub mod Applied
