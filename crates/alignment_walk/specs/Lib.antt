-- What the code of this crate works with. Alignments are defined in bus_model.
pub mod Steps
pub mod Walk
