pub mod Told
pub mod Along
pub mod Calls
pub mod Tasks
pub mod Covered
pub mod Tied
pub mod Kept
