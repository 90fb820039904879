-- What the entries answer; below `Laws` what is proved of it.
pub mod Lengths
pub mod Encode
pub mod Laws
