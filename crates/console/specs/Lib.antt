-- What reading hands on.
pub mod Steps
