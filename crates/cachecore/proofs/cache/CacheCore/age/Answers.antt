use Rattle.std.proofs.Common.{ap, sym, subst, ◌∙◌}
use Rattle.pagestore.specs.Store.{Store}
use Rattle.cachecore.specs.Tables.{IsCache, state_of}
use Rattle.cachecore.proofs.CoreLemmas.{core-lists}
use Rattle.cachecore.proofs.CoreViews.{state_is}
use Rattle.cachecore.proofs.cache.CacheCore.age.Goals as goal

pub invariant_of-self : goal.invariant_of-self
invariant_of-self c =
    let a = c.self.inside in
    subst (λ (p : Store). IsCache (state_of a.geometry a.name p.files a.handles a.blocks a.requests a.syncs) p a.blocks)
    (sym c.age.ensures.aged)
    (record {
      core = core-lists c.self.invariant.core _;
      syncs = c.self.invariant.syncs;
    })

pub returns-clause-step : goal.returns-clause-step
returns-clause-step c =
    let a = c.self.inside in (
      tt,
      ap (λ (p : Store). state_of a.geometry a.name p.files a.handles a.blocks a.requests a.syncs) c.age.ensures.aged
          ∙ state_is c.self.view_is,
    )
