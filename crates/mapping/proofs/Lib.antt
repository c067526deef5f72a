pub mod ArrayLemmas
pub mod CountedLemmas
pub mod MapLemmas
pub mod PageLemmas
pub mod RetagLemmas
pub mod TotalLemmas
