pub mod Answers
pub mod Caches
pub mod Owned
pub mod Stores
