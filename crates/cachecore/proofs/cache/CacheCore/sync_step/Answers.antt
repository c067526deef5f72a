use Rattle.std.proofs.Common.{ap, sym, subst, ◌≡◌, ◌∙◌}
use Rattle.std.specs.FinMap as map
use Rattle.std.specs.Ordering.{nat_cmp}
use Rattle.maps.specs.Maps.{change_at}
use Rattle.machine.specs.declared.event.Event.TheVariants as event
use Rattle.machine.specs.declared.event.Reply.TheVariants as reply
use Rattle.machine.specs.State.{State, Sync}
use Rattle.machine.specs.Step.{Step}
use Rattle.cachecore.specs.Core.{Core}
use Rattle.cachecore.specs.Nexts.{OnStart}
use Rattle.cachecore.specs.Starting.{IsStarted, IsToStart, with_started}
use Rattle.cachecore.proofs.CoreViews.{state_is}
use Rattle.cachecore.proofs.Parts.{parts_of}
use Rattle.cachecore.proofs.SyncCalls.{last_cache}
use Rattle.cachecore.proofs.cache.CacheCore.sync_step.Goals as goal
use Rattle.cachecore.proofs.cache.CacheCore.sync_step.Goals.{After-started}

starts : (c : After-started)
    → IsToStart c.args.self.now.state c.args.sync c.in-Start.file.0 c.in-Start.page.0 × (c.next_of.new.self ≡ c.args.self.now)
starts c = subst (OnStart (λ file page. IsToStart c.args.self.now.state c.args.sync file.0 page.0
    × (c.next_of.new.self ≡ c.args.self.now))) c.in-Start.is c.in-Ok.ensures.starts

-- the write has started, from the state that the caller had
begun : (c : After-started) → IsStarted c.args.self.now.state c.in-Start.file.0 c.in-Start.page.0 c.begin_flush-job.result
    c.begin_flush-job.new.self.state
begun c = subst (λ (k : Core). IsStarted k.state c.in-Start.file.0 c.in-Start.page.0 c.begin_flush-job.result
    c.begin_flush-job.new.self.state) (starts c).1 c.begin_flush-job.ensures.begun

pub invariant_of-self : goal.invariant_of-self
invariant_of-self c =
    let it = (starts c).0 in
    let kept = ap (λ (t : State). t.syncs) (state_is c.self.view_is ∙ (begun c).state) in
    let there = ap (λ (x : map.FinMap nat_cmp Sync). map.get x c.args.sync.0) kept ∙ it.there in
    last_cache (parts_of c.self.inside) c.self.invariant c.args.sync.0 c.in-Start.page.0 it.sync there
    c.started.new.self c.started.ensures

pub returns-in-Start-clause-step : goal.returns-in-Start-clause-step
returns-in-Start-clause-step c =
    let s = c.args.self.now.state in
    let mid = c.begin_flush-job.new.self.state in
    let e = event.SyncStep c.args.sync in
    let r = reply.Job (record { 0 = c.begin_flush-job.result.serial }) in
    let put : c.started.new.self ≡ change_at c.args.sync.0 (with_started c.in-Start.page.0) mid.syncs = c.started.ensures
    ∙ ap (λ (t : State). change_at c.args.sync.0 (with_started c.in-Start.page.0) t.syncs) (state_is c.self.view_is) in
    subst (λ (t : State). Step s e r (record t { syncs = c.started.new.self })) (sym (state_is c.self.view_is))
    (subst (λ (x : map.FinMap nat_cmp Sync). Step s e r (record mid { syncs = x })) (sym put)
    ((starts c).0.begins c.begin_flush-job.result mid (begun c)))
