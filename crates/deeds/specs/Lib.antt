pub mod Comes
pub mod Views
pub mod Rules
pub mod Steps
pub mod Shown
