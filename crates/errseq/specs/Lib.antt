pub mod Word
pub mod Recorded
pub mod Samples
pub mod Events
