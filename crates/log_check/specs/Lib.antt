-- What checking a log answers, and what the answer says; below `Laws` what is proved of it.
pub mod Refusal
pub mod Check
pub mod Verdict
pub mod Returns
pub mod Laws
