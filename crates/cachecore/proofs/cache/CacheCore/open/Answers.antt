use Rattle.std.proofs.Common.{arith, sym, subst, ◌<◌, length}
use Rattle.std.specs.FinMap as map
use Rattle.pc_types.specs.declared.limits.TheConstants.{MAX_HANDLES}
use Rattle.machine.specs.declared.event.Event.TheVariants as event
use Rattle.machine.specs.declared.event.Reply.TheVariants as reply
use Rattle.machine.specs.State.{State}
use Rattle.machine.specs.Step.{Step}
use Rattle.cachecore.specs.Tables.{IsCache, state_of}
use Rattle.cachecore.proofs.CoreLemmas.{core-open}
use Rattle.cachecore.proofs.StepLemmas.{open_step}
use Rattle.cachecore.proofs.SyncLaws.{opened_syncs}
use Rattle.cachecore.proofs.CoreViews.{state_is}
use Rattle.cachecore.proofs.cache.CacheCore.open.Goals as goal

pub invariant_of-self-2 : goal.invariant_of-self-2
invariant_of-self-2 c =
    let a = c.self.inside in
    let h = c.in_ok-handle.handle in
    let f = c.args.file.0 in
    let here : f < length a.pages.files = omega (arith, c.file_count.ensures) in
    let free = c.in_ok-handle.ensures.lowest.0 in
    let old : State = state_of a.geometry a.name a.pages.files a.handles a.blocks a.requests a.syncs in
    subst (λ m. IsCache (state_of a.geometry a.name a.pages.files m a.blocks a.requests a.syncs) a.pages a.blocks)
    (sym c.in_ok-handle.ensures.opened)
    (record {
      core = core-open c.self.invariant.core h f here;
      syncs = opened_syncs a.handles a.pages.files a.syncs c.self.invariant.syncs h f free;
    })

pub returns-clause-step : goal.returns-clause-step
returns-clause-step c =
    let a = c.self.inside in
    let h = c.in_ok-handle.handle in
    let f = c.args.file in
    let old : State = state_of a.geometry a.name a.pages.files a.handles a.blocks a.requests a.syncs in
    let here : f.0 < length a.pages.files = omega (arith, c.file_count.ensures) in
    let room : map.len a.handles < MAX_HANDLES = omega (arith, c.count.ensures) in
    let new : State = record old { handles = map.insert a.handles h f.0 } in
    let step = open_step old f (record { 0 = h }) here room c.in_ok-handle.ensures.lowest in
    subst (λ m. Step c.args.self.now.state (event.Open f) (reply.Handle (record { 0 = h }))
    (state_of a.geometry a.name a.pages.files m a.blocks a.requests a.syncs)) (sym c.in_ok-handle.ensures.opened)
    (subst (λ s. Step s (event.Open f) (reply.Handle (record { 0 = h })) new) (state_is c.self.view_is) step)
