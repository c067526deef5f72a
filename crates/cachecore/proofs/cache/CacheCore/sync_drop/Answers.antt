use Rattle.std.proofs.Common.{sym, ap, ◌∙◌}
use Rattle.std.specs.Prelude.{is_some}
use Rattle.machine.specs.declared.event.Event.TheVariants as event
use Rattle.machine.specs.declared.event.Reply.TheVariants as reply
use Rattle.writeback.specs.Slots.{sync_of}
use Rattle.cachecore.proofs.CoreViews.{state_is}
use Rattle.cachecore.proofs.Parts.{Goes, Parts, goes_to, parts_of, state_by}
use Rattle.pc_types.specs.declared.refusal.Refusal.TheVariants.{Stranger}
use Rattle.pagestore.proofs.RangeLemmas.{none_of}
use Rattle.pagestore.proofs.StoreLaws.{some_mapped}
use Rattle.cachecore.proofs.SyncCalls.{drops, drops_none, without}
use Rattle.cachecore.proofs.cache.CacheCore.sync_drop.Goals as goal

refused : (c : goal.Then-is_none) → Goes c.args.self.now.state (event.SyncDrop c.args.sync) (reply.Refused Stranger)
    (record (parts_of c.self.inside) { syncs = c.remove.new.self })
refused c =
    let p = parts_of c.self.inside in
    let gone = none_of _ (sym (ap is_some (sym c.remove.ensures.progress) ∙ some_mapped sync_of c.remove.result ∙ c.if-is_none.ensures)) in
    goes_to (state_by p) _ (state_is c.self.view_is) (event.SyncDrop c.args.sync) (reply.Refused Stranger)
    (without p c.self.invariant c.args.sync) _
    (λ k. let x : Parts = record p { syncs = c.remove.ensures.removed k } in x)
    (drops_none p c.self.invariant c.args.sync gone)

pub invariant_of-self : goal.invariant_of-self
invariant_of-self c = (refused c).cache

pub returns-then-is_none-clause-step : goal.returns-then-is_none-clause-step
returns-then-is_none-clause-step c = (refused c).step

dropped : (c : goal.Else-is_none) → Goes c.args.self.now.state (event.SyncDrop c.args.sync) reply.Dropped
    (record (parts_of c.self.inside) { syncs = c.remove.new.self })
dropped c =
    let p = parts_of c.self.inside in
    let there = ap is_some (sym c.remove.ensures.progress) ∙ some_mapped sync_of c.remove.result ∙ c.if-is_none.ensures in
    goes_to (state_by p) _ (state_is c.self.view_is) (event.SyncDrop c.args.sync) reply.Dropped
    (without p c.self.invariant c.args.sync) _
    (λ k. let x : Parts = record p { syncs = c.remove.ensures.removed k } in x)
    (drops p c.self.invariant c.args.sync there)

pub invariant_of-self-2 : goal.invariant_of-self-2
invariant_of-self-2 c = (dropped c).cache

pub returns-clause-step : goal.returns-clause-step
returns-clause-step c = (dropped c).step
