-- What the command prints; below `laws` what is proved of it.
pub mod Command
pub mod Laws
