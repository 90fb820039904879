-- What the generator draws; below `Laws` what is proved of it.
pub mod Draw
pub mod Laws
