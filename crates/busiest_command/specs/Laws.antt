-- What is proved of the text.
pub mod Text
