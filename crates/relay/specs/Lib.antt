pub mod Device
pub mod Queue
