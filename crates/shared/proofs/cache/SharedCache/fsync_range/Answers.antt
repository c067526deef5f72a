use Rattle.std.proofs.Common.{ap, inr, refl, subst, sym, ◌⊎◌, ◌∙◌}
use Rattle.std.proofs.lemmas.Result.{IfErr-weaker}
use Rattle.std.specs.Prelude.{None}
use Rattle.machine.specs.declared.event.Event.TheVariants as event
use Rattle.pc_types.specs.declared.ids.HandleId.{HandleId}
use Rattle.held.specs.declared.log.Slip.{Slip}
use Rattle.held.specs.declared.denied.Denied.{Denied}
use Rattle.shared.specs.Called.{Makes, is_for_now}
use Rattle.shared.specs.Polls.{Hears}
use Rattle.shared.specs.Seen.{HandleSeen}
use Rattle.shared.specs.Rooms.{IsFinal}
use Rattle.shared.specs.Settled.{Settles}
use Rattle.shared.specs.Synced.{IsNotBegun, IsSyncDenied, Reports, end_reply}
use Rattle.shared.proofs.Hearing.{hears_told}
use Rattle.shared.proofs.Rooming.{admitted_final, admitted_own, final_lasting}
use Rattle.shared.proofs.Settling.{settles_same}
use Rattle.shared.proofs.Syncing.{fsync_clean, fsync_denied, fsync_failed, report_final, sync_denied, syncs_of}
use Rattle.shared.proofs.cache.SharedCache.fsync_range.Goals as goal

-- the slip that the flush is for is of this cache
pub flush_after-flushed-requires-clause-own : goal.flush_after-flushed-requires-clause-own
flush_after-flushed-requires-clause-own g c =
    syncs_of _ c.args.first c.args.last _ c.args.seat.now c.sync_pages.new.seat c.in-Ok.synced.slip g.B.Naming.name c.in-Ok.ensures.ended
    (admitted_own c.args.self.now.name c.args.seat.now.name c.args.handle.now.cache (sym c.admits.ensures ∙ c.in_default.is) ∙ c.args.self.now.named)

-- and of the step that ended this sync clean
pub flush_after-flushed-requires-clause-clean : goal.flush_after-flushed-requires-clause-clean
flush_after-flushed-requires-clause-clean g c =
    let s = c.in-Ok.ensures.ended in (
      s.at,
      s.sync,
      s.began.goes.same.2 ∙ sym c.sync_pages.ensures.goes.same.2,
      subst (λ f. Makes s.at c.sync_pages.new.seat c.in-Ok.synced.slip (event.SyncStep s.sync) (end_reply f))
          c.in_default-failed.is s.ended,
    )

pub returns-in-Err-sync_pages-clause-denied : goal.returns-in-Err-sync_pages-clause-denied
returns-in-Err-sync_pages-clause-denied g c own here =
    sync_denied g.B.Naming.whole g.B.Naming.files g.B.Naming.sizes c.args.self.now.name c.args.handle.now.number c.args.first c.args.last c.args.seat.now c.sync_pages.new.seat
    c.args.handle.now.pass c.sync_pages.new.pass c.in-Err-sync_pages.denied
    (c.in-Err-sync_pages.ensures.kept ∙ ap (λ (h : HandleSeen). h.pass) c.handle.view_is)
    (subst (λ (n : HandleId). IsSyncDenied g.B.Naming.files g.B.Naming.sizes c.args.self.now.name g.B.Naming.whole n c.args.first c.args.last c.args.seat.now c.sync_pages.new.seat
    c.in-Err-sync_pages.denied) (ap (λ (h : HandleSeen). h.number) c.handle.view_is)
    (subst (λ n. IsSyncDenied g.B.Naming.files g.B.Naming.sizes n g.B.Naming.whole c.handle.inside.number c.args.first c.args.last c.args.seat.now
    c.sync_pages.new.seat c.in-Err-sync_pages.denied) (sym c.args.self.now.named) c.in-Err-sync_pages.ensures.denied))

pub returns-in-Some-clause-denied : goal.returns-in-Some-clause-denied
returns-in-Some-clause-denied g c own here =
    fsync_failed g.B.Naming.whole g.B.Naming.files g.B.Naming.sizes c.args.self.now.name _ c.args.handle.now c.args.first c.args.last c.in-Ok.synced.failed
    c.in-Some.code c.args.seat.now c.sync_pages.new.seat c.in-Ok.synced.slip c.sync_pages.new.pass
    c.report_failed.new.handle.pass c.report_failed.result c.handle.view_is c.in-Ok.ensures.ended c.in-Some.is
    c.sync_pages.ensures.level
    (subst (λ n. Hears g.B.Naming.files g.B.Naming.sizes n c.in-Ok.synced.slip c.sync_pages.new.seat c.sync_pages.new.pass)
    (sym c.args.self.now.named) c.in-Ok.ensures.hears) c.report_failed.ensures.failed

pub returns-in-Ok-flushed-clause-denied : goal.returns-in-Ok-flushed-clause-denied
returns-in-Ok-flushed-clause-denied g c own here =
    fsync_denied g.B.Naming.whole c.report.result g.B.Naming.files g.B.Naming.sizes c.args.self.now.name _ c.args.handle.now c.args.first c.args.last
    c.in-Ok.synced.failed c.args.seat.now c.sync_pages.new.seat c.in-Ok-flushed.durable c.in-Ok.synced.slip
    c.sync_pages.new.pass c.report.new.handle.pass c.handle.view_is c.in-Ok.ensures.ended c.in_default-failed.is
    c.in-Ok-flushed.ensures.slip c.sync_pages.ensures.level
    (subst (λ n. Hears g.B.Naming.files g.B.Naming.sizes n c.in-Ok.synced.slip c.sync_pages.new.seat c.sync_pages.new.pass)
    (sym c.args.self.now.named) c.in-Ok.ensures.hears) c.report.ensures.failed

pub returns-in-Ok-flushed-clause-clean : goal.returns-in-Ok-flushed-clause-clean
returns-in-Ok-flushed-clause-clean g c =
    fsync_clean c.report.result _ c.args.handle.now c.args.first c.args.last c.in-Ok.synced.failed c.args.seat.now
    c.sync_pages.new.seat c.in-Ok-flushed.durable c.in-Ok.synced.slip c.sync_pages.new.pass c.report.new.handle.pass
    c.handle.view_is c.in-Ok.ensures.ended c.in_default-failed.is c.in-Ok-flushed.ensures.slip c.sync_pages.ensures.level
    c.report.ensures.clean

pub returns-in-Ok-flushed-clause-hears : goal.returns-in-Ok-flushed-clause-hears
returns-in-Ok-flushed-clause-hears g c =
    hears_told c.report.result g.B.Naming.files g.B.Naming.sizes c.args.self.now.name c.in-Ok-flushed.durable c.sync_pages.new.seat
    c.sync_pages.new.pass c.report.new.handle.pass
    (subst (λ n. Hears g.B.Naming.files g.B.Naming.sizes n c.in-Ok-flushed.durable c.sync_pages.new.seat c.sync_pages.new.pass)
    (sym c.args.self.now.named)
    (subst (λ (s : Slip). Hears g.B.Naming.files g.B.Naming.sizes g.B.Naming.name s c.sync_pages.new.seat c.sync_pages.new.pass)
    (sym c.in-Ok-flushed.ensures.slip) c.in-Ok.ensures.hears)) c.report.ensures.clean

-- a refusal that may pass when a request ends is that of the sync
pub returns-in-Err-clause-stands : goal.returns-in-Err-clause-stands
returns-in-Err-clause-stands g c =
    inr (admitted_final g.B.Naming.files g.B.Naming.sizes c.args.self.now.name c.args.seat.now c.args.self.now.name c.args.seat.now.name
    c.args.handle.now.cache c.in-Err.refusal c.without_slip.result
    (sym c.admits.ensures ∙ c.in-Err.is) c.without_slip.ensures)

pub returns-in-Err-sync_pages-clause-stands : goal.returns-in-Err-sync_pages-clause-stands
returns-in-Err-sync_pages-clause-stands g c =
    subst (λ (n : HandleId). IsNotBegun g.B.Naming.files g.B.Naming.sizes c.args.self.now.name g.B.Naming.whole n c.args.first c.args.last c.args.seat.now c.sync_pages.new.seat
    c.in-Err-sync_pages.denied ⊎ IsFinal g.B.Naming.files g.B.Naming.sizes c.args.self.now.name c.sync_pages.new.seat
    c.in-Err-sync_pages.denied) (ap (λ (h : HandleSeen). h.number) c.handle.view_is)
    (subst (λ n. IsNotBegun g.B.Naming.files g.B.Naming.sizes n g.B.Naming.whole c.handle.inside.number c.args.first c.args.last c.args.seat.now c.sync_pages.new.seat
    c.in-Err-sync_pages.denied ⊎ IsFinal g.B.Naming.files g.B.Naming.sizes n c.sync_pages.new.seat c.in-Err-sync_pages.denied)
    (sym c.args.self.now.named) c.in-Err-sync_pages.ensures.stands)

pub returns-in-Some-clause-stands : goal.returns-in-Some-clause-stands
returns-in-Some-clause-stands g c =
    inr (report_final g.B.Naming.files g.B.Naming.sizes c.args.self.now.name c.sync_pages.new.seat _ _ _ _ c.report_failed.result
    c.report_failed.ensures.failed)

pub returns-in-Ok-flushed-clause-stands : goal.returns-in-Ok-flushed-clause-stands
returns-in-Ok-flushed-clause-stands g c =
    let h = c.args.handle.now.number in
    IfErr-weaker c.report.result (Reports None c.in-Ok-flushed.durable c.sync_pages.new.pass c.report.new.handle.pass)
    (λ d. IsNotBegun g.B.Naming.files g.B.Naming.sizes c.args.self.now.name g.B.Naming.whole h c.args.first c.args.last c.args.seat.now c.sync_pages.new.seat d
    ⊎ IsFinal g.B.Naming.files g.B.Naming.sizes c.args.self.now.name c.sync_pages.new.seat d)
    (λ d r. inr (report_final g.B.Naming.files g.B.Naming.sizes c.args.self.now.name c.sync_pages.new.seat _ _ _ _ d r)) c.report.ensures.failed

pub returns-in-Err-flushed-clause-stands : goal.returns-in-Err-flushed-clause-stands
returns-in-Err-flushed-clause-stands g c =
    inr (final_lasting g.B.Naming.files g.B.Naming.sizes c.args.self.now.name c.sync_pages.new.seat c.without_slip-in-Err-flushed.result
    (ap (λ (x : Denied). is_for_now x.refusal) c.without_slip-in-Err-flushed.ensures))

pub returns-in-Err-sync_pages-clause-settled : goal.returns-in-Err-sync_pages-clause-settled
returns-in-Err-sync_pages-clause-settled g c =
    subst (λ n. Settles n c.args.seat.now c.sync_pages.new.seat) (sym c.args.self.now.named)
    c.in-Err-sync_pages.ensures.settled

pub returns-in-Some-clause-settled : goal.returns-in-Some-clause-settled
returns-in-Some-clause-settled g c =
    (subst (λ n. Settles n c.args.seat.now c.sync_pages.new.seat) (sym c.args.self.now.named) c.in-Ok.ensures.settled)

pub returns-in-Ok-flushed-clause-settled : goal.returns-in-Ok-flushed-clause-settled
returns-in-Ok-flushed-clause-settled g c =
    (subst (λ n. Settles n c.args.seat.now c.sync_pages.new.seat) (sym c.args.self.now.named) c.in-Ok.ensures.settled)

pub returns-in-Err-flushed-clause-settled : goal.returns-in-Err-flushed-clause-settled
returns-in-Err-flushed-clause-settled g c =
    (subst (λ n. Settles n c.args.seat.now c.sync_pages.new.seat) (sym c.args.self.now.named) c.in-Ok.ensures.settled)

pub returns-in-Err-clause-settled : goal.returns-in-Err-clause-settled
returns-in-Err-clause-settled g c = (settles_same c.args.self.now.name c.args.seat.now c.args.seat.now refl)
