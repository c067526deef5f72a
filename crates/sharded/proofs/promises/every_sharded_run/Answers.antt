use Rattle.sharded.proofs.Kept.{shard_files_are_those, shard_reads_are_right, shard_syncs_are_durable, shard_syncs_are_synced, shards_hold_always, shards_hold_files}
use Rattle.sharded.proofs.Begins.{shards_may_begin}
use Rattle.sharded.proofs.Free.{shards_are_free}
use Rattle.sharded.proofs.ShardRuns.{shards_are_runs}
use Rattle.sharded.proofs.promises.every_sharded_run.Goals as goal

pub returns-clause-shards : goal.returns-clause-shards
returns-clause-shards c = shards_are_runs

pub returns-clause-free : goal.returns-clause-free
returns-clause-free c = shards_are_free

pub returns-clause-begin : goal.returns-clause-begin
returns-clause-begin c = shards_may_begin

pub returns-clause-always : goal.returns-clause-always
returns-clause-always c = shards_hold_always

pub returns-clause-held : goal.returns-clause-held
returns-clause-held c = shards_hold_files

pub returns-clause-those : goal.returns-clause-those
returns-clause-those c = shard_files_are_those

pub returns-clause-reads : goal.returns-clause-reads
returns-clause-reads c = shard_reads_are_right

pub returns-clause-synced : goal.returns-clause-synced
returns-clause-synced c = shard_syncs_are_synced

pub returns-clause-durable : goal.returns-clause-durable
returns-clause-durable c = shard_syncs_are_durable
