pub mod Bitmaps
pub mod Bits
pub mod Floor
pub mod Ids
pub mod Marked
pub mod Search
