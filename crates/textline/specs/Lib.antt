pub mod Lines
pub mod Prints
pub mod Stops
pub mod Words
