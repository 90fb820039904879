-- What the command prints; below `Laws` what is proved of it.
pub mod Command
pub mod Laws
