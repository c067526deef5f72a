-- What is looked up in a state after a change.
pub mod Adopted
pub mod StateLaws
pub mod ChangeLaws
pub mod WriteLengths
