use Rattle.std.proofs.Common.{◌≡◌, ◌≤◌, ◌^◌, ◌-◌, ℕ}
use Rattle.std.specs.Prelude.{None}
use Rattle.std.specs.FinMap as finmap
use Rattle.cachecore.specs.Standing.{TellsPages}
use Rattle.cachecore.proofs.cache.CacheCore.tell_file.Given as goal

abbrev pub invariant-pages : goal.invariant-pages
invariant-pages l = TellsPages l.fn.self.state l.fn.file.0 l.from l.fn.catalog l.catalog × (l.from ≤ 2 ^ 36)

abbrev pub decreases-pages : goal.decreases-pages
decreases-pages l = 2 ^ 36 - l.from
