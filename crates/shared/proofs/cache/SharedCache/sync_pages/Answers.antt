use Rattle.std.proofs.Common.{inl, inr, refl}
use Rattle.machine.specs.declared.event.Event.TheVariants as event
use Rattle.shared.proofs.Owning.{sync_given_up, sync_not_begun, sync_over, sync_same}
use Rattle.shared.proofs.Settling.{dropped_settles, settles_denied, settles_on, settles_same, sync_settles}
use Rattle.shared.proofs.Syncing.{begin_denied, gave_up, gave_up_final, memory_denied, syncs_by}
use Rattle.shared.proofs.cache.SharedCache.sync_pages.Goals as goal

-- there was no memory for a buffer
pub returns-in-Err-clause-denied : goal.returns-in-Err-clause-denied
returns-in-Err-clause-denied g c = inl (memory_denied g.B.Naming.files g.B.Naming.sizes g.B.Naming.name g.B.Naming.whole c.args.handle c.args.first c.args.last c.args.seat.now c.in-Err.refusal
    c.without_slip.result c.in-Err.ensures.refused c.without_slip.ensures)

pub returns-in-Err-clause-stands : goal.returns-in-Err-clause-stands
returns-in-Err-clause-stands g c = inl (memory_denied g.B.Naming.files g.B.Naming.sizes g.B.Naming.name g.B.Naming.whole c.args.handle c.args.first c.args.last c.args.seat.now c.in-Err.refusal
    c.without_slip.result c.in-Err.ensures.refused c.without_slip.ensures)

pub returns-in-Err-clause-only : goal.returns-in-Err-clause-only
returns-in-Err-clause-only g c = sync_same c.args.handle c.args.first c.args.last c.args.seat.now c.args.seat.now refl

-- the begin was refused
pub returns-in-Err-begun-clause-denied : goal.returns-in-Err-begun-clause-denied
returns-in-Err-begun-clause-denied g c = inl (begin_denied g.B.Naming.files g.B.Naming.sizes g.B.Naming.name g.B.Naming.whole c.args.handle c.args.first c.args.last c.deref_mut.result.now
    c.sync_begin-begun.new.self c.args.seat.now c.sync_begin-begun.new.seat c.in-Err-begun.denied c.in-Err-begun.ensures.denied)

pub returns-in-Err-begun-clause-stands : goal.returns-in-Err-begun-clause-stands
returns-in-Err-begun-clause-stands g c = inl (begin_denied g.B.Naming.files g.B.Naming.sizes g.B.Naming.name g.B.Naming.whole c.args.handle c.args.first c.args.last c.deref_mut.result.now
    c.sync_begin-begun.new.self c.args.seat.now c.sync_begin-begun.new.seat c.in-Err-begun.denied c.in-Err-begun.ensures.denied)

pub returns-in-Ok-sync_turns-clause-ended : goal.returns-in-Ok-sync_turns-clause-ended
returns-in-Ok-sync_turns-clause-ended g c = syncs_by c.args.handle c.args.first c.args.last _ _ _ _ _ _ _ _ _
    c.in-Ok-begun.ensures.made c.in-Ok-sync_turns.ensures.ended

pub returns-in-Err-sync_turns-clause-denied : goal.returns-in-Err-sync_turns-clause-denied
returns-in-Err-sync_turns-clause-denied g c = gave_up g.B.Naming.whole g.B.Naming.files g.B.Naming.sizes g.B.Naming.name c.args.handle c.args.first c.args.last _ _ _ _ _ _ _ _
    c.in-Err-sync_turns.denied c.give_up.result c.in-Ok-begun.ensures.made c.sync_turns.ensures.goes
    c.in-Err-sync_turns.ensures.denied c.in-Err-sync_turns.ensures.full c.in-Err-sync_turns.ensures.stands c.give_up.ensures.dropped

pub returns-in-Err-sync_turns-clause-stands : goal.returns-in-Err-sync_turns-clause-stands
returns-in-Err-sync_turns-clause-stands g c = inr (gave_up_final g.B.Naming.files g.B.Naming.sizes g.B.Naming.name _ _ _
    c.in-Err-sync_turns.denied c.give_up.result c.give_up.ensures.goes c.in-Err-sync_turns.ensures.stands
    c.give_up.ensures.dropped)

pub returns-in-Err-begun-clause-only : goal.returns-in-Err-begun-clause-only
returns-in-Err-begun-clause-only g c = sync_not_begun g.B.Naming.files g.B.Naming.sizes g.B.Naming.name g.B.Naming.whole c.args.handle c.args.first c.args.last c.deref_mut.result.now
    c.sync_begin-begun.new.self c.args.seat.now c.sync_begin-begun.new.seat c.in-Err-begun.denied c.in-Err-begun.ensures.denied

pub returns-in-Ok-sync_turns-clause-only : goal.returns-in-Ok-sync_turns-clause-only
returns-in-Ok-sync_turns-clause-only g c = sync_over c.args.handle c.args.first c.args.last _ _ _ _ _ _ _
    c.in-Ok-begun.ensures.made c.in-Ok-sync_turns.ensures.once

pub returns-in-Err-sync_turns-clause-only : goal.returns-in-Err-sync_turns-clause-only
returns-in-Err-sync_turns-clause-only g c = sync_given_up c.args.handle c.args.first c.args.last _ _ _ _ _ _ _ _
    c.in-Ok-begun.ensures.made c.in-Err-sync_turns.ensures.tried c.give_up.ensures.only c.give_up.ensures.few

pub returns-in-Err-clause-settled : goal.returns-in-Err-clause-settled
returns-in-Err-clause-settled g c = (settles_same g.B.Naming.name c.args.seat.now c.args.seat.now refl)

pub returns-in-Err-begun-clause-settled : goal.returns-in-Err-begun-clause-settled
returns-in-Err-begun-clause-settled g c =
    (settles_denied g.B.Naming.files g.B.Naming.sizes g.B.Naming.whole g.B.Naming.name (event.SyncBegin c.args.handle c.args.first c.args.last) c.deref_mut.result.now
    c.sync_begin-begun.new.self c.args.seat.now c.sync_begin-begun.new.seat c.in-Err-begun.denied (λ is. is)
    c.in-Err-begun.ensures.denied)

pub returns-in-Ok-sync_turns-clause-settled : goal.returns-in-Ok-sync_turns-clause-settled
returns-in-Ok-sync_turns-clause-settled g c =
    settles_on g.B.Naming.name _ _ _
    (sync_settles g.B.Naming.name c.args.handle c.args.first c.args.last _ _ _ _ _ _ c.in-Ok-begun.ensures.made)
    c.in-Ok-sync_turns.ensures.settled

pub returns-in-Err-sync_turns-clause-settled : goal.returns-in-Err-sync_turns-clause-settled
returns-in-Err-sync_turns-clause-settled g c =
    dropped_settles g.B.Naming.name _ _ _ _ _
    (sync_settles g.B.Naming.name c.args.handle c.args.first c.args.last _ _ _ _ _ _ c.in-Ok-begun.ensures.made)
    c.in-Err-sync_turns.ensures.settled c.give_up.ensures.only
