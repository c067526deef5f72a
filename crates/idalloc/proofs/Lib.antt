pub mod BitLemmas
pub mod FloorLemmas
pub mod MarkLemmas
pub mod NumberLemmas
pub mod SearchLemmas
pub mod TidyLemmas
