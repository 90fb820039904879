-- The command's arguments and its line; below `Laws` what is proved of them.
pub mod Command
pub mod Steps
pub mod Cases
pub mod Laws
