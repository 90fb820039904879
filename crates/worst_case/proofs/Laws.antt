-- What is proved of the worst case that is shown.
pub mod NoWorst
pub mod Precise
