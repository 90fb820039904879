-- What is proved of the definitions, each file over those before it.
pub mod Stretch
pub mod Count
pub mod Accepted
pub mod Search
pub mod Found
pub mod Walk
pub mod Best
pub mod Lines
pub mod Sheet
pub mod Fits
pub mod Answer
pub mod Meaning
pub mod Returns
pub mod Told
