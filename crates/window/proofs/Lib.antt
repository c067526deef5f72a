pub mod Outsides
pub mod Slices
pub mod TwoWindows
pub mod WindowCalls
