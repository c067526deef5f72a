pub mod Bits
pub mod Words
pub mod Prefixes
pub mod Samples
pub mod Runs
pub mod Rows
