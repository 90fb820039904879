-- What judging a row and computing its precise bound answer; below `Laws` what is proved of it.
pub mod Refusal
pub mod Judge
pub mod Decide
pub mod Returns
pub mod Explain
pub mod Laws
