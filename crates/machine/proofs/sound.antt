-- What every state keeps, step by step.
pub mod Lookups
pub mod Changes
pub mod Pages
pub mod Cuts
pub mod Writes
pub mod Steps
