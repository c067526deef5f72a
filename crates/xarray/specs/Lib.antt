pub mod MarkedArray
pub mod Standing
pub mod View
pub mod Rows
pub mod Walks
