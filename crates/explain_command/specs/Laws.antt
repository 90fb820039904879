-- What is proved of the text.
pub mod Lines
pub mod Text
