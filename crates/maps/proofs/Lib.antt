pub mod Count
pub mod Filtered
pub mod Found
pub mod Kept
pub mod Lengths
pub mod MapLaws
pub mod Maps
pub mod Vectors
