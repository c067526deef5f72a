use Rattle.std.proofs.Common.{◌≡◌, ◌∙◌, ap, length, rules, subst, sym}
use Rattle.std.specs.Prelude.{IsTrue, Ok}
use Rattle.pc_types.specs.Limits.{Sizes, is_geometry}
use Rattle.cachecore.specs.Replies.{SyncGivesBack, sync_stepped}
use Rattle.cachecore.specs.declared.answers.SyncStepped.{SyncStepped}
use Rattle.machine.specs.declared.event.Event.TheVariants as event
use Rattle.held.specs.declared.log.Slip.{Slip}
use Rattle.held.specs.Entered.{Made}
use Rattle.held.specs.Shown.{HeldSeen}
use Rattle.held.specs.Started.{as_sync}
use Rattle.trail.specs.History.{After}
use Rattle.shared.specs.Denials.{IsDenied}
use Rattle.shared.specs.Polls.{Hears}
use Rattle.shared.specs.declared.fsync.Synced.{Synced}
use Rattle.shared.proofs.Hearing.{hears_by}
use Rattle.shared.proofs.Making.{denied_event, goes_denied}
use Rattle.shared.proofs.Owning.{once_clean, once_failed, try_denied, try_waits, try_writes}
use Rattle.shared.proofs.Rooming.{step_final}
use Rattle.shared.proofs.Settling.{settles_denied, step_kind, step_quiet, step_settles}
use Rattle.shared.proofs.Sparing.{kept_after}
use Rattle.shared.proofs.Syncing.{step_full}
use Rattle.shared.proofs.Waiting.{step_busy}
use Rattle.shared.proofs.cache.SharedCache.sync_turn.Goals as goal

pub returns-in-Err-wait_or-clause-goes : goal.returns-in-Err-wait_or-clause-goes
returns-in-Err-wait_or-clause-goes g c = goes_denied g.B.Naming.files g.B.Naming.sizes g.B.Naming.name g.B.Naming.whole (event.SyncStep c.args.sync) c.deref_mut.result.now
    c.sync_step.new.self c.args.seat.now c.sync_step.new.seat c.in-Err.denied
    c.in-Err.ensures.denied

pub returns-in-Err-wait_or-clause-denied : goal.returns-in-Err-wait_or-clause-denied
returns-in-Err-wait_or-clause-denied g c =
    subst (IsDenied g.B.Naming.files g.B.Naming.sizes g.B.Naming.name g.B.Naming.whole (λ e. e ≡ event.SyncStep c.args.sync) c.args.seat.now c.sync_step.new.seat) (sym c.in-Err-wait_or.ensures.denied)
    (denied_event g.B.Naming.files g.B.Naming.sizes g.B.Naming.name g.B.Naming.whole (event.SyncStep c.args.sync) c.deref_mut.result.now c.sync_step.new.self c.args.seat.now c.sync_step.new.seat
    c.in-Err.denied tt c.in-Err.ensures.denied)

pub returns-in-Ok-wait_or-clause-goes_on : goal.returns-in-Ok-wait_or-clause-goes_on
returns-in-Ok-wait_or-clause-goes_on g c =
    try_denied g.B.Naming.files g.B.Naming.sizes g.B.Naming.name g.B.Naming.whole c.args.sync c.deref_mut.result.now c.sync_step.new.self c.args.seat.now c.sync_step.new.seat
    c.in-Err.denied c.in-Err.ensures.denied

pub returns-in-Err-wait_or-clause-tried : goal.returns-in-Err-wait_or-clause-tried
returns-in-Err-wait_or-clause-tried g c =
    try_denied g.B.Naming.files g.B.Naming.sizes g.B.Naming.name g.B.Naming.whole c.args.sync c.deref_mut.result.now c.sync_step.new.self c.args.seat.now c.sync_step.new.seat
    c.in-Err.denied c.in-Err.ensures.denied

pub returns-in-Wait-clause-goes_on : goal.returns-in-Wait-clause-goes_on
returns-in-Wait-clause-goes_on g c = try_waits c.args.sync _ _ _ _ _ _ _ _ (ap as_sync c.in-Wait.is) c.in-Ok.ensures.made

pub returns-in-Clean-clause-once : goal.returns-in-Clean-clause-once
returns-in-Clean-clause-once g c = once_clean c.args.sync _ _ _ _ _ _ _ (ap as_sync c.in-Clean.is) c.in-Ok.ensures.made

pub returns-in-Failed-clause-once : goal.returns-in-Failed-clause-once
returns-in-Failed-clause-once g c = once_failed c.args.sync _ _ _ _ _ _ _ _ (ap as_sync c.in-Failed.is) c.in-Ok.ensures.made

pub returns-clause-goes_on : goal.returns-clause-goes_on
returns-clause-goes_on g c =
    try_writes c.args.sync _ _ _ _ _ _ _ _ (ap as_sync c.in-Job.is) c.in-Ok.ensures.made c.flush_by-buffer.ensures.only

-- the refusal stands, in the hold that says whether a request is in flight
pub returns-in-Err-wait_or-clause-stands : goal.returns-in-Err-wait_or-clause-stands
returns-in-Err-wait_or-clause-stands g c =
    step_final g.B.Naming.whole g.B.Naming.files g.B.Naming.sizes g.B.Naming.name c.args.sync c.deref_mut.result.now c.sync_step.new.self c.args.seat.now
    c.sync_step.new.seat c.in-Err.denied c.in-Err-wait_or.denied c.in-Err.ensures.denied
    c.wait_or.ensures.legal c.in-Err-wait_or.ensures.denied c.in-Err-wait_or.ensures.still

pub returns-in-Err-wait_or-clause-full : goal.returns-in-Err-wait_or-clause-full
returns-in-Err-wait_or-clause-full g c =
    step_full g.B.Naming.files g.B.Naming.sizes g.B.Naming.name g.B.Naming.whole c.args.sync c.deref_mut.result.now c.sync_step.new.self c.args.seat.now c.sync_step.new.seat
    c.in-Err.denied c.in-Err-wait_or.denied c.in-Err.ensures.denied c.in-Err-wait_or.ensures.denied

-- the buffer came back
pub returns-in-Ok-wait_or-clause-back : goal.returns-in-Ok-wait_or-clause-back
returns-in-Ok-wait_or-clause-back g c = ap length c.in-Err.ensures.kept ∙ c.requires.size

pub returns-in-Wait-clause-back : goal.returns-in-Wait-clause-back
returns-in-Wait-clause-back g c =
    ap length (subst (λ (x : SyncStepped). SyncGivesBack c.args.buffer (Ok x)) (ap as_sync c.in-Wait.is) c.in-Ok.ensures.back)
    ∙ c.requires.size

pub returns-in-Clean-clause-back : goal.returns-in-Clean-clause-back
returns-in-Clean-clause-back g c =
    ap length (subst (λ (x : SyncStepped). SyncGivesBack c.args.buffer (Ok x)) (ap as_sync c.in-Clean.is) c.in-Ok.ensures.back)
    ∙ c.requires.size

pub returns-in-Failed-clause-back : goal.returns-in-Failed-clause-back
returns-in-Failed-clause-back g c =
    ap length (subst (λ (x : SyncStepped). SyncGivesBack c.args.buffer (Ok x)) (ap as_sync c.in-Failed.is) c.in-Ok.ensures.back)
    ∙ c.requires.size

-- the pass was levelled in the hold that ended the sync
pub returns-in-Clean-clause-hears : goal.returns-in-Clean-clause-hears
returns-in-Clean-clause-hears g c =
    let same : c.deref_mut-in-Clean.result.now ≡ c.sync_step.new.self =
    search (rules, c.deref_mut-in-Clean.ensures.value) in
    subst (λ (s : Slip). Hears g.B.Naming.files g.B.Naming.sizes g.B.Naming.name s c.sync_step.new.seat c.over.new.pass)
    (sym (ap (λ (x : Synced). x.slip) c.over.ensures.is))
    (hears_by g.B.Naming.files g.B.Naming.sizes g.B.Naming.name (event.SyncStep c.args.sync) _ c.deref_mut.result.now c.sync_step.new.self
    c.deref_mut-in-Clean.result.now c.args.seat.now c.sync_step.new.seat c.in-Ok.made.1 c.over.new.pass
    c.in-Ok.ensures.made same c.over.ensures.legal c.over.ensures.known)

pub returns-in-Failed-clause-hears : goal.returns-in-Failed-clause-hears
returns-in-Failed-clause-hears g c =
    let same : c.deref_mut-in-Failed.result.now ≡ c.sync_step.new.self =
    search (rules, c.deref_mut-in-Failed.ensures.value) in
    subst (λ (s : Slip). Hears g.B.Naming.files g.B.Naming.sizes g.B.Naming.name s c.sync_step.new.seat c.over-in-Failed.new.pass)
    (sym (ap (λ (x : Synced). x.slip) c.over-in-Failed.ensures.is))
    (hears_by g.B.Naming.files g.B.Naming.sizes g.B.Naming.name (event.SyncStep c.args.sync) _ c.deref_mut.result.now c.sync_step.new.self
    c.deref_mut-in-Failed.result.now c.args.seat.now c.sync_step.new.seat c.in-Ok.made.1
    c.over-in-Failed.new.pass c.in-Ok.ensures.made same c.over-in-Failed.ensures.legal
    c.over-in-Failed.ensures.known)

-- what it began is ended
pub returns-in-Ok-wait_or-clause-settled : goal.returns-in-Ok-wait_or-clause-settled
returns-in-Ok-wait_or-clause-settled g c =
    settles_denied g.B.Naming.files g.B.Naming.sizes g.B.Naming.whole g.B.Naming.name (event.SyncStep c.args.sync) c.deref_mut.result.now c.sync_step.new.self c.args.seat.now
    c.sync_step.new.seat c.in-Err.denied (λ is. is) c.in-Err.ensures.denied

pub returns-in-Err-wait_or-clause-settled : goal.returns-in-Err-wait_or-clause-settled
returns-in-Err-wait_or-clause-settled g c =
    (settles_denied g.B.Naming.files g.B.Naming.sizes g.B.Naming.whole g.B.Naming.name (event.SyncStep c.args.sync) c.deref_mut.result.now c.sync_step.new.self
    c.args.seat.now c.sync_step.new.seat c.in-Err.denied (λ is. is) c.in-Err.ensures.denied)

pub returns-in-Wait-clause-settled : goal.returns-in-Wait-clause-settled
returns-in-Wait-clause-settled g c =
    step_quiet g.B.Naming.name c.args.sync _ _ _ _ _ _ _ (ap as_sync c.in-Wait.is) (λ x b. b) c.in-Ok.ensures.made

pub returns-in-Clean-clause-settled : goal.returns-in-Clean-clause-settled
returns-in-Clean-clause-settled g c =
    step_quiet g.B.Naming.name c.args.sync _ _ _ _ _ _ _ (ap as_sync c.in-Clean.is) (λ x b. b) c.in-Ok.ensures.made

pub returns-in-Failed-clause-settled : goal.returns-in-Failed-clause-settled
returns-in-Failed-clause-settled g c =
    step_quiet g.B.Naming.name c.args.sync _ _ _ _ _ _ _ (ap as_sync c.in-Failed.is) (λ x b. b) c.in-Ok.ensures.made

pub returns-clause-settled : goal.returns-clause-settled
returns-clause-settled g c =
    step_settles g.B.Naming.name c.args.sync _ c.in-Job.job _ _ _ _ _ _ (ap as_sync c.in-Job.is) c.in-Ok.ensures.made
    c.flush_by-buffer.ensures.ends

pub flush_by-buffer-requires-clause-kind : goal.flush_by-buffer-requires-clause-kind
flush_by-buffer-requires-clause-kind g c =
    step_kind c.args.sync _ c.in-Job.job _ _ _ _ _ (ap as_sync c.in-Job.is) c.in-Ok.ensures.made c.in-Ok.ensures.job

-- who is told to wait can: a request is in flight
pub wait_for_end-requires : goal.wait_for_end-requires
wait_for_end-requires g c =
    let new = c.sync_step.new.self in
    let geometry : IsTrue (is_geometry g.B.Naming.sizes) =
    subst (λ (z : Sizes). IsTrue (is_geometry z)) c.args.self.now.sized c.page.ensures.within in
    let legal : After g.B.Naming.files g.B.Naming.sizes g.B.Naming.name new.log.history new.core.state =
    subst (λ (s : HeldSeen). After g.B.Naming.files g.B.Naming.sizes g.B.Naming.name s.log.history s.core.state) c.deref.ensures
    c.core.ensures.named in
    step_busy c.deref_mut.result.now.core.state c.args.sync c.in-Wait.field-0 new.core.state
    (kept_after g.B.Naming.files g.B.Naming.sizes g.B.Naming.name new.log.history new.core.state geometry legal).orderly
    (subst (λ (x : SyncStepped). Made (event.SyncStep c.args.sync) (sync_stepped (Ok x)) c.deref_mut.result.now new
    c.args.seat.now c.sync_step.new.seat c.in-Ok.made.1) (ap as_sync c.in-Wait.is) c.in-Ok.ensures.made).step
