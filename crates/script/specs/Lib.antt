pub mod Answers
pub mod Commands
pub mod Keywords
pub mod Passes
pub mod Runs
pub mod Sessions
pub mod Telling
