-- What the code of this crate works with. The work itself is defined in bus_model.
pub mod Prepared
pub mod Faults
pub mod Placed
