-- What is proved of the definitions, by what a check answers.
pub mod Storable
