pub mod Sized
pub mod Firsts
