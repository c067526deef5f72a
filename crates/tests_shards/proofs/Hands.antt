-- What a worker's turn tells.
use Rattle.std.proofs.Common.{ℕ, List, Some}
use Rattle.std.specs.Prelude.{IfSome}
use Rattle.shared.specs.ShardNames.{CacheNames}
use Rattle.shared.specs.ShardWorkers.{WorksAt}
use Rattle.shared.specs.ShardWorks.{EndsOne}
use Rattle.shared.specs.Workers.{IsOwnFailure}
use Rattle.shared.specs.declared.ends.Done.{Done}
use Rattle.shared.specs.declared.worker.Worker.{Worker}

-- the failed write that a turn tells of is its shard's
pub own_failed : (k : ℕ) (n : CacheNames) (passed : ℕ → Type 0) (done : Done) (before after : List Worker)
    → WorksAt k (EndsOne n passed (Some done)) before after → IfSome done.failed (IsOwnFailure n.name n.board)
own_failed k n passed done before after works = works.4.ended.4
