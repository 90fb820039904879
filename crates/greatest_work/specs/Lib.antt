-- What the code of this crate works with. The greatest work is defined in bus_model.
pub mod Listed
pub mod Memory
pub mod Ready
pub mod Setting
