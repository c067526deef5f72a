pub mod BlockLemmas
pub mod CountLemmas
pub mod CutLemmas
pub mod MapLemmas
pub mod MoveLemmas
pub mod PlaceLemmas
pub mod SpotLemmas
pub mod TableLemmas
