pub mod Flights
pub mod Picks
pub mod Requests
pub mod Rising
pub mod Slots
