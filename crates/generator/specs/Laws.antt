-- What is proved of the generator.
pub mod NeverZero
