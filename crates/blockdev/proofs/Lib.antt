pub mod BlockLemmas
pub mod DurableLemmas
pub mod FileLemmas
