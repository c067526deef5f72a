pub mod Lists
pub mod Alone
pub mod Keeps
pub mod Counts
pub mod Known
pub mod Carrying
pub mod Lending
