pub mod Asked
pub mod Synced
