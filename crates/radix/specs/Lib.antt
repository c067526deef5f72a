pub mod Bitmap
pub mod Words
pub mod WordLaw
pub mod Entries
pub mod Tree
pub mod Parts
pub mod Twigs
