use Rattle.std.proofs.Common.{refl, subst}
use Rattle.pc_types.specs.declared.limits.TheConstants.{LAST_PAGE}
use Rattle.machine.specs.declared.event.Event.TheVariants as event
use Rattle.cachecore.proofs.CutPages.{count_below}
use Rattle.world.specs.Stepping.{HasAllPages, WorldSeen}
use Rattle.world.proofs.EventReplies.{other_world}
use Rattle.world.proofs.Spares.{with_spare}
use Rattle.world.proofs.world.World.sync_begin.Goals as goal

pub invariant_of-self : goal.invariant_of-self
invariant_of-self g c = with_spare c.self.inside.spare c.self.invariant
    (other_world c.self.inside.core.state c.self.inside.jobs _ c.self.invariant.0
    (event.SyncBegin c.args.handle (record { 0 = 0 }) (record { 0 = LAST_PAGE })) _ c.sync_begin.new.self.state refl
    refl c.sync_begin.ensures.step)

pub returns-clause-whole : goal.returns-clause-whole
returns-clause-whole g c =
    subst (λ (w : WorldSeen). HasAllPages w.core.sizes.page) c.self.view_is
    (λ z small. count_below c.self.inside.core.state.sizes.page z c.self.invariant.0.page_size small)
