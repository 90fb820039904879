-- What a log is, and how it is checked; in proofs/Theory what is proved of it.
pub mod Log
pub mod Beginning
pub mod Follow
pub mod Cases
