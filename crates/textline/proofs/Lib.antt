pub mod LineLemmas
pub mod NumberLemmas
pub mod PrintLemmas
pub mod WordLemmas
