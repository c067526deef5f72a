pub mod Adoptions
pub mod Keeping
pub mod Numbers
pub mod Places
pub mod Reasons
pub mod RowLemmas
