-- What a case of the test programs holds.
pub mod Cases
