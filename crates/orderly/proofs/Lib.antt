pub mod Calls
pub mod Enough
pub mod FileSizes
pub mod FileSteps
pub mod Legal
pub mod Orderly
