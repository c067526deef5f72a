pub mod Handles
pub mod Told
