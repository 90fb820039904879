-- What is proved of the definitions, each file over those before it.
pub mod Storable
pub mod Layout
pub mod RoundTrip
pub mod Areas
pub mod Returns
pub mod Reading
