use Rattle.std.proofs.Common.{ap, refl, subst, ◌≡◌, ◌∙◌}
use Rattle.std.specs.FinMap as map
use Rattle.machine.specs.declared.event.Event.TheVariants as event
use Rattle.machine.specs.State.{State}
use Rattle.cachecore.specs.Nexts.{OnStart}
use Rattle.cachecore.specs.Starting.{IsToStart}
use Rattle.cachecore.proofs.AtOnceCalls.{carried, noted_first}
use Rattle.cachecore.proofs.CoreViews.{lists_are, state_is}
use Rattle.cachecore.proofs.Parts.{parts_of, state_by}
use Rattle.cachecore.proofs.SyncCalls.{last_cache}
use Rattle.cachecore.proofs.cache.CacheCore.sync_at_once.Goals as goal
use Rattle.cachecore.proofs.cache.CacheCore.sync_at_once.Goals.{After-started}
use Rattle.cachecore.proofs.cache.CacheCore.sync_at_once.Given.{Over as Given}

starts : (g : Given) (c : After-started g)
    → IsToStart c.args.self.now.state c.args.sync c.in-Start.file.0 c.in-Start.page.0 × (c.next_of.new.self ≡ c.args.self.now)
starts g c = subst (OnStart (λ file page. IsToStart c.args.self.now.state c.args.sync file.0 page.0
    × (c.next_of.new.self ≡ c.args.self.now))) c.in-Start.is c.in-Ok.ensures.starts

same : (g : Given) (c : After-started g) → state_by (parts_of c.self.inside) ≡ c.args.self.now.state
same g c = state_is c.self.view_is ∙ state_is (starts g c).1

pub invariant_of-self : goal.invariant_of-self
invariant_of-self g c =
    let it = (starts g c).0 in
    let there = ap (λ (t : State). map.get t.syncs c.args.sync.0) (same g c) ∙ it.there in
    last_cache (parts_of c.self.inside) c.self.invariant c.args.sync.0 c.in-Start.page.0 it.sync there
    c.started.new.self c.started.ensures

pub returns-in-Start : goal.returns-in-Start
returns-in-Start g c =
    let b = (goal.at.returns-in-Start g c).After-started in
    let is = same g b in
    carried c.args.self.now _ c.in-Start.file.0 c.in-Start.page.0 c.args.device.now c.write_at_once-reply.result
    c.write_at_once-reply.new.self c.write_at_once-reply.new.device c.write_at_once-reply.ensures
    (ap (λ (t : State). t.name) is) (ap (λ (t : State). t.sizes) is) (lists_are c.self.view_is ∙ lists_are (starts g b).1)
    (event.SyncStep c.args.sync)
    (noted_first c.args.self.now.state (state_by (parts_of c.self.inside)) is c.args.sync c.in-Start.file.0 c.in-Start.page.0
    (starts g b).0 c.started.new.self c.started.ensures) (λ t. refl)
