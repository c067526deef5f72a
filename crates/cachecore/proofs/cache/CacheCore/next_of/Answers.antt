use Rattle.std.proofs.Common.{sym, subst}
use Rattle.std.specs.FinMap as map
use Rattle.std.specs.Ordering.{nat_cmp}
use Rattle.machine.specs.declared.event.Event.TheVariants as event
use Rattle.machine.specs.declared.event.Reply.TheVariants as reply
use Rattle.machine.specs.State.{Sync}
use Rattle.machine.specs.Step.{Step}
use Rattle.writeback.specs.Slots.{sync_of}
use Rattle.cachecore.proofs.CoreViews.{state_is}
use Rattle.cachecore.proofs.Parts.{Goes, IsKept, Parts, goes_to, parts_of, state_by}
use Rattle.pc_types.specs.declared.refusal.Refusal.TheVariants.{Stranger}
use Rattle.cachecore.specs.Nexts.{sync_says}
use Rattle.cachecore.specs.Starting.{IsNext}
use Rattle.cachecore.proofs.SyncCalls.{awaits, bounded, clean_call, failed_call, held_call, must_be_open, next_call}
use Rattle.cachecore.proofs.SyncCalls.{told_code, without, without_cache}
use Rattle.cachecore.proofs.SyncSteps.{stranger_step}
use Rattle.cachecore.proofs.cache.CacheCore.next_of.Goals as goal
use Rattle.cachecore.proofs.cache.CacheCore.next_of.Goals.{in-None, in-Some-failure_since}

pub returns-in_default-clause-step : goal.returns-in_default-clause-step
returns-in_default-clause-step c = λ e.
    let p = parts_of c.self.inside in
    subst (λ s. Step s (event.SyncStep c.args.sync) (reply.Refused Stranger) s) (state_is c.self.view_is)
    (stranger_step (state_by p) c.args.sync (sym c.in_default.ensures))

pub unreachable-requires : goal.unreachable-requires
unreachable-requires c =
    let p = parts_of c.self.inside in
    must_be_open p c.self.invariant c.args.sync (sync_of c.in-Some.progress)
    c.in-Some.ensures c.in_default-file.ensures

pub start_of-requires-clause-next : goal.start_of-requires-clause-next
start_of-requires-clause-next c =
    let p = parts_of c.self.inside in
    subst (λ s. IsNext s c.args.sync.0 c.in-Some-file.file c.in-Start.found.page.0) (state_is c.self.view_is)
    (next_call p c.self.invariant c.args.sync (sync_of c.in-Some.progress)
    c.in-Some.ensures c.in-Some-file.file c.in-Some-file.ensures c.in-Start.found c.in-Start.ensures.step)

pub failure_since-requires-clause-coded : goal.failure_since-requires-clause-coded
failure_since-requires-clause-coded c =
    let p = parts_of c.self.inside in
    told_code p c.self.invariant c.args.sync (sync_of c.in-Some.progress) c.in-Some.ensures
    c.in-Some-file.file c.in-Some-file.ensures

pub returns-in-Held-clause-step : goal.returns-in-Held-clause-step
returns-in-Held-clause-step c = λ e.
    let p = parts_of c.self.inside in
    subst (λ s. Step s (event.SyncStep c.args.sync) (reply.Wait c.in-Held.page) s) (state_is c.self.view_is)
    (held_call p c.self.invariant c.args.sync (sync_of c.in-Some.progress)
    c.in-Some.ensures c.in-Some-file.file c.in-Some-file.ensures c.in-Held.page c.in-Held.ensures.step)

awaited : (c : goal.After-set_bound) → Goes c.args.self.now.state (event.SyncStep c.args.sync)
    (reply.Wait c.in-Await.page) (record (parts_of c.self.inside) { syncs = c.set_bound.new.self })
awaited c =
    let p = parts_of c.self.inside in
    goes_to (state_by p) _ (state_is c.self.view_is) (event.SyncStep c.args.sync) (reply.Wait c.in-Await.page)
    (bounded p c.self.invariant c.args.sync (sync_of c.in-Some.progress) c.in-Some.ensures c.in-Some-file.file
    c.in-Some-file.ensures c.in-Await.bound.0) _
    (λ k. let x : Parts = record p { syncs = c.set_bound.ensures k } in x)
    (awaits p c.self.invariant c.args.sync (sync_of c.in-Some.progress) c.in-Some.ensures c.in-Some-file.file
    c.in-Some-file.ensures c.in-Await.page c.in-Await.bound c.in-Await.ensures.step)

pub invariant_of-self : goal.invariant_of-self
invariant_of-self c = (awaited c).cache

pub returns-in-Await-clause-step : goal.returns-in-Await-clause-step
returns-in-Await-clause-step c = λ e. (awaited c).step

pub invariant_of-self-in-Over : goal.invariant_of-self-in-Over
invariant_of-self-in-Over c =
    let p = parts_of c.self.inside in
    subst (λ (x : map.FinMap nat_cmp Sync). IsKept (record p { syncs = x })) (sym c.remove.ensures.removed)
    (without_cache p c.self.invariant c.args.sync)

pub returns-after-failure_since-clause-step : goal.returns-after-failure_since-clause-step
returns-after-failure_since-clause-step c = λ e.
    let p = parts_of c.self.inside in
    let s = c.args.self.now.state in
    let now : Parts = record p { syncs = c.remove.new.self } in
    let y = sync_of c.in-Some.progress in
    elim c.match-failure_since.branch [
      | in-None w ↦
          let goes = goes_to (state_by p) s (state_is c.self.view_is) (event.SyncStep c.args.sync) reply.Clean
          (without p c.self.invariant c.args.sync) now
          (λ k. let x : Parts = record p { syncs = c.remove.ensures.removed k } in x)
          (clean_call p c.self.invariant c.args.sync y c.in-Some.ensures c.in-Some-file.file c.in-Some-file.ensures
          c.in-Over.ensures.step w.in-None.ensures) in
          subst (λ r. Step s (event.SyncStep c.args.sync) (sync_says r) (state_by now)) (sym w.result-is) goes.step
      | in-Some-failure_since w ↦
          let goes = goes_to (state_by p) s (state_is c.self.view_is) (event.SyncStep c.args.sync)
          (reply.Failed w.in-Some-failure_since.code) (without p c.self.invariant c.args.sync) now
          (λ k. let x : Parts = record p { syncs = c.remove.ensures.removed k } in x)
          (failed_call p c.self.invariant c.args.sync y c.in-Some.ensures c.in-Some-file.file c.in-Some-file.ensures
          c.in-Over.ensures.step w.in-Some-failure_since.code w.in-Some-failure_since.ensures) in
          subst (λ r. Step s (event.SyncStep c.args.sync) (sync_says r) (state_by now)) (sym w.result-is) goes.step
    ]
