use Rattle.cachecore.proofs.ToWrite.{NoneBefore}
use Rattle.cachecore.proofs.cache.CacheCore.first_to_write.Given as goal

abbrev pub invariant-files : goal.invariant-files
invariant-files l = NoneBefore l.fn.self.state l.file
