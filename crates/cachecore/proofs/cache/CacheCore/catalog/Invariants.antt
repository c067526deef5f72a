use Rattle.cachecore.specs.Standing.{TellsBefore}
use Rattle.cachecore.proofs.cache.CacheCore.catalog.Given as goal

abbrev pub invariant-files : goal.invariant-files
invariant-files l = TellsBefore l.fn.self.state l.file l.catalog
