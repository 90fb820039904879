-- What the operation that finds the last frame's worst case answers; below `Laws` what is proved of it.
pub mod Answer
pub mod Steps
pub mod Laws
