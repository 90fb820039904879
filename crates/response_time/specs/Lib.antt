-- What the code of this crate works with. The bounds themselves are defined in bus_model.
pub mod Load
pub mod Laws
