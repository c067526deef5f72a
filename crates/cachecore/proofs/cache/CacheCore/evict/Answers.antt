use Rattle.std.proofs.Common.{subst}
use Rattle.machine.specs.declared.event.Event.TheVariants as event
use Rattle.cachecore.specs.Replies.{evicted}
use Rattle.machine.specs.Step.{Step}
use Rattle.cachecore.specs.Tables.{state_of}
use Rattle.cachecore.proofs.Evictions.{evict_step, evicted_failed, core-evicted}
use Rattle.cachecore.proofs.SyncLaws.{moved_syncs}
use Rattle.cachecore.proofs.CoreViews.{state_is}
use Rattle.cachecore.proofs.cache.CacheCore.evict.Goals as goal

pub invariant_of-self : goal.invariant_of-self
invariant_of-self c =
    let a = c.self.inside in
    record {
      core = core-evicted a.geometry a.name a.handles a.pages c.evict.new.self a.blocks a.requests a.syncs
          c.evict.result c.evict.ensures.evicted c.self.invariant.core;
      syncs = moved_syncs a.handles a.pages.files a.syncs c.self.invariant.syncs c.evict.new.self.files
          (evicted_failed a.pages c.evict.new.self c.evict.result c.evict.ensures.evicted);
    }

pub returns-clause-step : goal.returns-clause-step
returns-clause-step c =
    let a = c.self.inside in
    subst (λ s. Step s event.Evict (evicted c.evict.result)
    (state_of a.geometry a.name c.evict.new.self.files a.handles a.blocks a.requests a.syncs))
    (state_is c.self.view_is)
    (evict_step a.geometry a.name a.handles a.pages c.evict.new.self a.blocks a.requests a.syncs c.evict.result
    c.evict.ensures.evicted)
