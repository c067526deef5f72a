pub mod Balance
pub mod Blocks
pub mod Keys
pub mod Table
pub mod Told
