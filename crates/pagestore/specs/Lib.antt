pub mod Store
pub mod Counts
pub mod Cuts
pub mod Filling
pub mod Ranges
pub mod Reads
pub mod Syncing
