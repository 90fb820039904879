-- What is proved of the definitions.
pub mod Input
pub mod Loading
pub mod Layout
pub mod Reading
pub mod RoundTrip
