use Rattle.std.proofs.Common.{length}
use Rattle.shared.proofs.shards.config.+are_distinct.Given as goal

abbrev pub decreases-are_distinct : goal.decreases-are_distinct
decreases-are_distinct g a = length a.sources.now
