-- What a sync promises, over every run.
pub mod Track
pub mod SyncProgress
pub mod SyncRuns
pub mod DurableRuns
pub mod Bounds
pub mod FewWrites
pub mod QuietTags
pub mod EndsClean
