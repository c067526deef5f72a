pub mod OperationLemmas
pub mod SplitLemmas
pub mod SumLemmas
pub mod WalkLemmas
