pub mod Promises
pub mod Shards
