pub mod Cataloged
pub mod Extents
pub mod Kept
pub mod Rows
