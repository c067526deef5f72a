use Rattle.std.proofs.Common.{ap, sym, subst, ◌∙◌}
use Rattle.std.specs.Prelude.{is_some}
use Rattle.std.specs.FinMap as map
use Rattle.pc_types.specs.declared.refusal.Refusal.TheVariants.{Busy}
use Rattle.machine.specs.declared.event.Event.TheVariants as event
use Rattle.machine.specs.declared.event.Reply.TheVariants as reply
use Rattle.machine.specs.State.{State}
use Rattle.machine.specs.Step.{Step}
use Rattle.cachecore.specs.Tables.{IsCache, state_of}
use Rattle.cachecore.proofs.CoreLemmas.{core-close}
use Rattle.cachecore.proofs.StepLemmas.{busy_step, close_step}
use Rattle.cachecore.proofs.SyncLaws.{closed_syncs}
use Rattle.cachecore.proofs.CoreViews.{state_is}
use Rattle.cachecore.proofs.cache.CacheCore.close.Goals as goal

pub returns-then-uses_handle-clause-step : goal.returns-then-uses_handle-clause-step
returns-then-uses_handle-clause-step c =
    let a = c.self.inside in
    let old : State = state_of a.geometry a.name a.pages.files a.handles a.blocks a.requests a.syncs in
    subst (λ s. Step s (event.Close c.args.handle) (reply.Refused Busy) s) (state_is c.self.view_is)
    (busy_step old c.args.handle (ap is_some (sym c.file.ensures) ∙ c.if-is_none.ensures)
    (sym c.uses_handle.ensures ∙ c.if-uses_handle.true))

pub invariant_of-self : goal.invariant_of-self
invariant_of-self c =
    let a = c.self.inside in
    let h = c.args.handle.0 in
    let unused = sym c.uses_handle.ensures ∙ c.if-uses_handle.false in
    let old : State = state_of a.geometry a.name a.pages.files a.handles a.blocks a.requests a.syncs in
    subst (λ m. IsCache (state_of a.geometry a.name a.pages.files m a.blocks a.requests a.syncs) a.pages a.blocks)
    (sym c.close.ensures)
    (record {
      core = core-close c.self.invariant.core h;
      syncs = closed_syncs a.handles a.pages.files a.syncs c.self.invariant.syncs h unused;
    })

pub returns-clause-step : goal.returns-clause-step
returns-clause-step c =
    let a = c.self.inside in
    let h = c.args.handle in
    let unused = sym c.uses_handle.ensures ∙ c.if-uses_handle.false in
    let old : State = state_of a.geometry a.name a.pages.files a.handles a.blocks a.requests a.syncs in
    let new : State = record old { handles = map.remove a.handles h.0 } in
    subst (λ m. Step c.args.self.now.state (event.Close h) reply.Closed
    (state_of a.geometry a.name a.pages.files m a.blocks a.requests a.syncs)) (sym c.close.ensures)
    (subst (λ s. Step s (event.Close h) reply.Closed new) (state_is c.self.view_is)
    (close_step old h (ap is_some (sym c.file.ensures) ∙ c.if-is_none.ensures) unused))
