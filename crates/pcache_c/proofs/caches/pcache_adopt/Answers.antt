use Rattle.std.proofs.Common.{rules, ◌≡◌, ◌∙◌, ℕ, pos, Some, Ok, sym, subst, ap}
use Rattle.std.specs.Option.{IsSomeAnd}
use Rattle.pc_types.specs.Limits.{Sizes}
use Rattle.pcache_c.specs.Caches.{IsAdopted}
use Rattle.pcache_c.proofs.Clauses.{if_adopted, made_and}
use Rattle.pcache_c.proofs.caches.pcache_adopt.Goals as goal

pub returns-in-Ok-catalog_of-clause-adopted : goal.returns-in-Ok-catalog_of-clause-adopted
returns-in-Ok-catalog_of-clause-adopted c = λ n is.
    let plain : c.keep.result ≡ pos n = search rules in
    subst (λ (g : Sizes). IsSomeAnd c.keep.new.held.value (IsAdopted g c.args.sizes.now c.args.extents.now)) c.in-Ok.ensures.sizes
    (made_and c.keep.new.held.value c.by_jobs.result _ (c.keep.ensures.kept n plain)
    (if_adopted c.in-Ok.geometry c.args.sizes.now c.args.extents.now c.in-Ok-catalog_of.catalog c.by_jobs.result c.in-Ok-catalog_of.ensures.lists c.in-Ok-catalog_of.ensures.geometry c.by_jobs.ensures.world c.by_jobs.ensures.handles))
