pub mod Bytes
pub mod PartCalls
pub mod TwoParts
