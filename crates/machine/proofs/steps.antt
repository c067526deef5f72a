-- The tests, replies and changes of each event. `Cases` is the one eliminator: every walk over the events uses it.
pub mod Choices
pub mod Lowest
pub mod Passed
pub mod Answered
pub mod Cases
pub mod Picks
pub mod Determined
pub mod Stuck
pub mod Awaited
pub mod Steady
pub mod Ends
