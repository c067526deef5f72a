pub mod Rounds
pub mod Crews
pub mod Sharded
