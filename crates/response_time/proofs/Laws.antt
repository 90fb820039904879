-- What is proved of these definitions, turn by turn.
pub mod Instances
pub mod Claims
pub mod Sweeps
