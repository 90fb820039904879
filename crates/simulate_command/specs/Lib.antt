-- The command's arguments and what it prints; below `Laws` what is proved of them.
pub mod Command
pub mod Steps
pub mod Laws
