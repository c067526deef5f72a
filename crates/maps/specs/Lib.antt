pub mod Maps
pub mod Vectors
