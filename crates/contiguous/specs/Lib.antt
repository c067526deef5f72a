pub mod Bytes
pub mod Contiguous
pub mod Promises
