pub mod CommandLemmas
pub mod RunLemmas
pub mod CommandGiven
pub mod PassTable
pub mod HandleLaws
pub mod SessionLemmas
pub mod SyncLaws
