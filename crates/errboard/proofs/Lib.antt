pub mod States
pub mod Polls
pub mod Recordings
pub mod Cuts
pub mod Openings
pub mod Polling
