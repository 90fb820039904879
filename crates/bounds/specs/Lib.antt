-- What the code of this crate works with. The bounds themselves are defined in bus_model.
pub mod Search
pub mod Find
pub mod Case
pub mod Laws
