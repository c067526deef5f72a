pub mod Hands
pub mod Strangers
pub mod Told
