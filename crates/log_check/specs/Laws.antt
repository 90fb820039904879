-- What is proved of the answer, and how code finds it.
pub mod Loop
pub mod Meaning
pub mod Returns
pub mod Answer
pub mod Small
