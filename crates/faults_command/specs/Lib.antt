-- What the command prints.
pub mod Command
