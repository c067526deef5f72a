pub mod Files
pub mod Kinds
pub mod Limits
pub mod Refusals
pub mod Spots
pub mod TagBits
pub mod Tags
