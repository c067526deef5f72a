use Rattle.std.proofs.Common.{◌≡◌, ◌-◌, find}
use Rattle.std.specs.FinMap as map
use Rattle.mapping.specs.declared.mapping.TheConstants.{MAX_PAGES}
use Rattle.writeback.specs.Picks.{is_flushable}
use Rattle.writeback.proofs.PickLemmas.{flushable_from}
use Rattle.writeback.proofs.picks.flush_pick.Given as goal

abbrev pub invariant-loop-found : goal.invariant-loop-found
invariant-loop-found l = find (flushable_from l.from.0) (map.entries l.mapping.pages)
    ≡ find is_flushable (map.entries l.mapping.pages)

abbrev pub decreases-loop-found : goal.decreases-loop-found
decreases-loop-found l = MAX_PAGES - l.from.0
