pub mod Sized
pub mod Flushed
