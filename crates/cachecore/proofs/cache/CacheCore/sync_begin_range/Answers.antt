use Rattle.std.proofs.Common.{arith, ap, refl, sym, subst, ◌∙◌}
use Rattle.std.specs.Prelude.{None, is_some}
use Rattle.std.specs.FinMap as map
use Rattle.pagestore.specs.Store.{Store}
use Rattle.machine.specs.declared.event.Event.TheVariants as event
use Rattle.machine.specs.declared.event.Reply.TheVariants as reply
use Rattle.machine.specs.State.{Sync}
use Rattle.machine.specs.Step.{Step}
use Rattle.cachecore.proofs.CoreViews.{lists_are, state_is}
use Rattle.cachecore.proofs.Parts.{Goes, Parts, goes_to, parts_of, state_by}
use Rattle.pc_types.specs.declared.refusal.Refusal.TheVariants.{BadHandle, BadRange, TooManyInFlight}
use Rattle.cachecore.specs.Replies as replies
use Rattle.cachecore.proofs.StepLemmas.{err_is}
use Rattle.cachecore.proofs.SyncCalls.{begins, begun, crowded, fresh}
use Rattle.cachecore.proofs.SyncSteps.{closed_step, crowded_step, range_step}
use Rattle.cachecore.proofs.cache.CacheCore.sync_begin_range.Goals as goal

pub returns-in_default-clause-step : goal.returns-in_default-clause-step
returns-in_default-clause-step c =
    let p = parts_of c.self.inside in
    let gone = ap is_some (sym c.in_default.ensures) in
    subst (λ s. Step s (event.SyncBegin c.args.handle c.args.first c.args.last) (reply.Refused BadHandle) s)
    (state_is c.self.view_is) (closed_step (state_by p) c.args.handle c.args.first
    c.args.last gone)

pub returns-then-last-first-clause-step : goal.returns-then-last-first-clause-step
returns-then-last-first-clause-step c =
    let p = parts_of c.self.inside in
    let there = ap is_some (sym c.in-Some.ensures) in
    subst (λ s. Step s (event.SyncBegin c.args.handle c.args.first c.args.last) (reply.Refused BadRange) s)
    (state_is c.self.view_is) (range_step (state_by p) c.args.handle c.args.first
    c.args.last there (omega (arith, c.if-last-first.true)))

pub returns-in_err-sync-clause-step : goal.returns-in_err-sync-clause-step
returns-in_err-sync-clause-step c =
    let p = parts_of c.self.inside in
    let there = ap is_some (sym c.in-Some.ensures) in
    let s = state_by p in
    let step = crowded_step s c.args.handle c.args.first c.args.last there (omega (arith, c.if-last-first.false))
    (crowded (map.len p.syncs) c.in_err-sync.ensures.room.1) in
    subst (λ m. Step c.args.self.now.state (event.SyncBegin c.args.handle c.args.first c.args.last)
    (replies.sync_begun c.from_residual.result) (state_by (record p { syncs = m })))
    (sym c.in_err-sync.ensures.same)
    (subst (λ r. Step c.args.self.now.state (event.SyncBegin c.args.handle c.args.first c.args.last)
    (replies.sync_begun r) s) (sym
    (err_is c.from_residual.result c.in_err-sync.field-0.0 c.from_residual.ensures.1))
    (subst (λ e. Step c.args.self.now.state (event.SyncBegin c.args.handle c.args.first c.args.last) (reply.Refused e)
    s) (sym c.in_err-sync.ensures.refused)
    (subst (λ t. Step t (event.SyncBegin c.args.handle c.args.first c.args.last) (reply.Refused TooManyInFlight) s)
    (state_is c.self.view_is) step)))

started : (c : goal.After-sync_begin) → Goes c.args.self.now.state
    (event.SyncBegin c.args.handle c.args.first c.args.last) (reply.Sync c.in_ok-sync.sync)
    (record (parts_of c.self.inside) { store = c.sync_begin.new.self; syncs = c.begin.new.self })
started c =
    let p = parts_of c.self.inside in
    let m = c.in_ok-sync.sync in
    let f = c.in-Some.file in
    let put = c.in_ok-sync.ensures.begun
    ∙ ap (λ k. map.insert p.syncs m.0
    (let y : Sync = record {
      handle = c.args.handle.0;
      first = c.args.first.0;
      last = c.args.last.0;
      started = None;
      failures = k;
      bound = None;
    } in y)) c.failures-failures.ensures in
    let marked =
    c.sync_begin.ensures (fresh p c.self.invariant c.args.handle c.args.first c.args.last f c.in-Some.ensures m) refl
    refl in
    goes_to (state_by p) _ (state_is c.self.view_is) (event.SyncBegin c.args.handle c.args.first c.args.last)
    (reply.Sync m) (begun p c.self.invariant c.args.handle c.args.first c.args.last f c.in-Some.ensures m) _
    (λ k. let x : Parts = record p { store = marked k; syncs = put k } in x)
    (begins p c.self.invariant c.args.handle c.args.first c.args.last f c.in-Some.ensures m
    (omega (arith, c.if-last-first.false)) (c.in_ok-sync.ensures.room.0 refl) c.in_ok-sync.ensures.lowest)

pub invariant_of-self-2 : goal.invariant_of-self-2
invariant_of-self-2 c = (started c).cache

pub returns-clause-step : goal.returns-clause-step
returns-clause-step c = (started c).step

pub returns-clause-lists : goal.returns-clause-lists
returns-clause-lists c =
    let p = parts_of c.self.inside in
    ap (λ (x : Store). x.lists) (c.sync_begin.ensures
    (fresh p c.self.invariant c.args.handle c.args.first c.args.last c.in-Some.file
    c.in-Some.ensures c.in_ok-sync.sync) refl refl) ∙ lists_are c.self.view_is
