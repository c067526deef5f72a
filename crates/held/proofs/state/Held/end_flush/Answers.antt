use Rattle.std.proofs.Common.{refl, subst, inl}
use Rattle.machine.specs.declared.event.Event.TheVariants as event
use Rattle.cachecore.specs.Replies.{end_of, flush_ended}
use Rattle.deeds.specs.Shown.{Settles}
use Rattle.pc_types.specs.declared.kind.Kind.TheVariants.{Flush}
use Rattle.held.specs.Ends.{HasFailure, IsRecorded}
use Rattle.held.specs.Shown.{HeldSeen}
use Rattle.held.proofs.Ends.{flush_end_went, records}
use Rattle.held.proofs.Holds.{end_room, entry_fits, none_needed}
use Rattle.held.proofs.InFlight.{goes_well, needs_none}
use Rattle.held.proofs.Receipts.{has_failure, on_board}
use Rattle.held.proofs.Tying.{on_ended}
use Rattle.held.proofs.state.Held.end_flush.Goals as goal

pub enter-slip-requires-clause-room : goal.enter-slip-requires-clause-room
enter-slip-requires-clause-room g c =
    let s = c.self.inside.core.state in
    let settled = subst (λ f. Settles g.B.NamesDeeds.told c.self.inside.desk f c.take_back.new.self) c.requires.deed
    c.take_back.ensures.settled in
    entry_fits c.self.inside.log s c.flush_end-answer.new.self.state (event.End Flush (end_of c.args.finished))
    (flush_ended c.flush_end-answer.result) 0
    (end_room c.self.inside.log s (event.End Flush (end_of c.args.finished)) c.self.invariant.0.0 refl
    (inl (needs_none s _ _ _ c.args.finished c.self.invariant.1.covered settled Flush c.requires.kind)))
    c.flush_end-answer.ensures.step (none_needed _)

pub gone_through-requires : goal.gone_through-requires
gone_through-requires g c =
    let s = c.self.inside.core.state in
    let settled = subst (λ f. Settles g.B.NamesDeeds.told c.self.inside.desk f c.take_back.new.self) c.requires.deed
    c.take_back.ensures.settled in
    goes_well s _ _ _ c.args.finished c.self.invariant.1.covered settled Flush c.requires.kind c.flush_end-answer.result
    c.flush_end-answer.new.self.state c.flush_end-answer.ensures.step

pub record-receipt-requires : goal.record-receipt-requires
record-receipt-requires g c =
    on_board c.self.inside.core.state Flush c.args.finished.serial c.flush_end-answer.result c.flush_end-answer.ensures.file

pub invariant_of-self : goal.invariant_of-self
invariant_of-self g c =
    let s = c.self.inside.core.state in
    let settled = subst (λ f. Settles g.B.NamesDeeds.told c.self.inside.desk f c.take_back.new.self) c.requires.deed
    c.take_back.ensures.settled in
    let m =
    (flush_end_went _ _ _ _ _ _ _
    (record { log = c.self.inside.log; core = c.self.inside.core; errors = c.self.inside.recorder })
    (record { log = c.enter-slip.new.self; core = c.flush_end-answer.new.self; errors = c.record-receipt.new.recorder })
    c.args.seat.now c.enter-slip.new.seat c.enter-slip.result c.self.invariant.0
    (end_of c.args.finished) c.end_without-end.result c.flush_end-answer.result c.of_flush_end-reply.result
    (end_room c.self.inside.log s (event.End Flush (end_of c.args.finished)) c.self.invariant.0.0 refl
    (inl (needs_none s _ _ _ c.args.finished c.self.invariant.1.covered settled Flush c.requires.kind)))
    c.end_without-end.ensures
    c.flush_end-answer.ensures.step c.flush_end-answer.ensures.lists c.of_flush_end-reply.ensures
    c.enter-slip.ensures.entered c.enter-slip.ensures.room
    (records s (end_of c.args.finished) c.flush_end-answer.result c.record-receipt.result c.self.inside.recorder
    c.record-receipt.new.recorder c.flush_end-answer.ensures.file c.record-receipt.ensures)) in (
      m.1,
      on_ended Flush c.flush_end-answer.result c.args.finished c.args.deed c.take_back.new.self m.0 c.self.invariant.0.0
          c.self.invariant.1 c.requires.kind c.requires.deed c.take_back.ensures.settled,
    )

pub returns-clause-failure : goal.returns-clause-failure
returns-clause-failure g c =
    subst (λ (h : HeldSeen). HasFailure h.core.state c.gone_through.result c.record-receipt.result) c.self.view_is
    (has_failure c.self.inside.core.state c.self.inside.recorder c.record-receipt.new.recorder c.gone_through.result c.record-receipt.result
    c.self.invariant.0.1.told
    (subst (λ a. IsRecorded c.self.inside.recorder a c.record-receipt.result c.record-receipt.new.recorder) c.gone_through.ensures
    c.record-receipt.ensures))
