-- What is proved of rows that are prepared.
pub mod Rows
