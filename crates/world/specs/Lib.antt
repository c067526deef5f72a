pub mod Answers
pub mod AtOnce
pub mod Begins
pub mod Ends
pub mod Flights
pub mod Flushing
pub mod Stepping
