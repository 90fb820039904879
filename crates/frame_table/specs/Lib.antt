-- The definitions in document 01's order; below `Laws` what is proved of them.
pub mod Text
pub mod Table
pub mod Laws
