pub mod Clauses
pub mod HeldValues
pub mod Numbers
