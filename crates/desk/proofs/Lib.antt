pub mod Longs
pub mod OneFile
pub mod Parts
pub mod Tables
