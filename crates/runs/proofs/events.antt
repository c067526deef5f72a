-- Each step of the world keeps cache and plain files coupled. `Steps` puts the cases together.
pub mod Lookups
pub mod Tables
pub mod Coupled
pub mod FileEvents
pub mod Evicts
pub mod Fills
pub mod Flushes
pub mod Ends
pub mod Calls
pub mod Truncations
pub mod Writes
pub mod Steps
