pub mod Blocks
pub mod Buffer
pub mod Device
pub mod Files
pub mod Jobs
pub mod Script
pub mod Watching
