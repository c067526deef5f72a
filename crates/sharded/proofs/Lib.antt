mod Begins
mod Free
mod Kept
mod Parts
mod ShardRuns
