pub mod Handles
pub mod Prints
