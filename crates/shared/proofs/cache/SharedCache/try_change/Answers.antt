use Rattle.std.proofs.Common.{refl, subst, sym}
use Rattle.cachecore.specs.declared.answers.WriteAnswer.{WriteAnswer}
use Rattle.pc_types.specs.declared.ids.HandleId.{HandleId}
use Rattle.held.specs.Entered.{Made}
use Rattle.machine.specs.declared.event.Reply.TheVariants as reply
use Rattle.held.proofs.Seats.{goes_by, goes_on, goes_same, once_by}
use Rattle.shared.specs.Called.{Makes}
use Rattle.shared.specs.Changes.{IsWholeIn, event_of, reply_of}
use Rattle.shared.specs.Denials.{IsDenied}
use Rattle.shared.specs.Own.{IsHelp, IsUndone}
use Rattle.shared.proofs.Making.{call_help, call_settled, first_again, first_made, first_settled, goes_denied, makes_by, retries_by, retries_denied}
use Rattle.shared.proofs.Owning.{change_no_flush, change_plain, only_missed, only_settled, only_try}
use Rattle.shared.proofs.Rooming.{final_denied, lost_denied, wants_pass}
use Rattle.shared.proofs.Sparing.{change_asked}
use Rattle.shared.proofs.Waiting.{change_busy}
use Rattle.shared.proofs.Wanting.{short_missed, short_settled}
use Rattle.shared.proofs.Settling.{change_begins, change_ends, change_fills, change_noted, missed_by, missed_denied, missed_filled, missed_on, missed_room, settles_by, settles_denied, settles_on}
use Rattle.shared.proofs.cache.SharedCache.try_change.Goals as goal

pub returns-in-Err-settle-clause-denied : goal.returns-in-Err-settle-clause-denied
returns-in-Err-settle-clause-denied g c =
    call_settled g.B.Naming.files g.B.Naming.sizes g.B.Naming.name g.B.Naming.whole c.args.handle (event_of c.args.change c.args.handle c.args.bytes.now) c.deref_mut.result.now
    c.change_by.new.state c.args.seat.now c.change_by.new.seat c.settle.new.seat c.in-Err.denied
    c.in-Err-settle.denied (change_no_flush c.args.change c.args.handle c.args.bytes.now) c.in-Err.ensures.denied c.settle.ensures.goes c.in-Err-settle.ensures.denied

pub returns-in-Wrote-clause-answer : goal.returns-in-Wrote-clause-answer
returns-in-Wrote-clause-answer g c =
    subst (λ (x : WriteAnswer). Makes c.args.seat.now c.change_by.new.seat c.in-Ok.made.1
    (event_of c.args.change c.args.handle c.args.bytes.now) (reply_of c.args.change x)) c.in-Wrote.is
    (makes_by _ _ _ _ _ _ _ c.in-Ok.ensures.made)

pub returns-in-Wrote-clause-whole : goal.returns-in-Wrote-clause-whole
returns-in-Wrote-clause-whole g c =
    subst (λ (x : WriteAnswer). IsWholeIn c.args.change c.args.bytes.now x) c.in-Wrote.is c.in-Ok.ensures.whole

pub returns-in-Err-fill-clause-denied : goal.returns-in-Err-fill-clause-denied
returns-in-Err-fill-clause-denied g c =
    call_help g.B.Naming.files g.B.Naming.sizes g.B.Naming.name g.B.Naming.whole c.args.handle (event_of c.args.change c.args.handle c.args.bytes.now) c.args.seat.now
    c.change_by.new.seat c.fill.new.seat c.in-Err-fill.denied (goes_by _ _ _ _ _ _ _ c.in-Ok.ensures.made)
    (subst (λ (h : HandleId). IsDenied g.B.Naming.files g.B.Naming.sizes g.B.Naming.name g.B.Naming.whole (IsHelp h) c.change_by.new.seat c.fill.new.seat c.in-Err-fill.denied)
    c.demand_of-demand-2.ensures c.in-Err-fill.ensures.denied)

pub returns-in-Ok-settle-clause-goes : goal.returns-in-Ok-settle-clause-goes
returns-in-Ok-settle-clause-goes g c =
    goes_on c.args.seat.now c.change_by.new.seat c.settle.new.seat (goes_denied g.B.Naming.files g.B.Naming.sizes g.B.Naming.name g.B.Naming.whole (event_of c.args.change c.args.handle c.args.bytes.now) c.deref_mut.result.now
    c.change_by.new.state c.args.seat.now c.change_by.new.seat c.in-Err.denied c.in-Err.ensures.denied)
    c.settle.ensures.goes

pub returns-in-Err-settle-clause-goes : goal.returns-in-Err-settle-clause-goes
returns-in-Err-settle-clause-goes g c =
    goes_on c.args.seat.now c.change_by.new.seat c.settle.new.seat (goes_denied g.B.Naming.files g.B.Naming.sizes g.B.Naming.name g.B.Naming.whole (event_of c.args.change c.args.handle c.args.bytes.now) c.deref_mut.result.now
    c.change_by.new.state c.args.seat.now c.change_by.new.seat c.in-Err.denied c.in-Err.ensures.denied)
    c.settle.ensures.goes

pub returns-in-Wait-clause-again : goal.returns-in-Wait-clause-again
returns-in-Wait-clause-again g c =
    retries_by (event_of c.args.change c.args.handle c.args.bytes.now) (reply.Wait c.in-Wait.field-0)
    c.deref_mut.result.now c.change_by.new.state c.args.seat.now c.change_by.new.seat c.change_by.new.seat
    c.in-Ok.made.1 (change_noted c.args.change c.args.handle c.args.bytes.now) tt
    (subst (λ (x : WriteAnswer). Made (event_of c.args.change c.args.handle c.args.bytes.now) (reply_of c.args.change x)
    c.deref_mut.result.now c.change_by.new.state c.args.seat.now c.change_by.new.seat c.in-Ok.made.1) c.in-Wait.is
    c.in-Ok.ensures.made) (goes_same c.change_by.new.seat c.change_by.new.seat refl)

pub returns-in-Ok-fill-clause-again : goal.returns-in-Ok-fill-clause-again
returns-in-Ok-fill-clause-again g c =
    retries_by (event_of c.args.change c.args.handle c.args.bytes.now) (reply.Miss c.in-Miss.page)
    c.deref_mut.result.now c.change_by.new.state c.args.seat.now c.change_by.new.seat c.fill.new.seat
    c.in-Ok.made.1 (change_noted c.args.change c.args.handle c.args.bytes.now) tt
    (subst (λ (x : WriteAnswer). Made (event_of c.args.change c.args.handle c.args.bytes.now) (reply_of c.args.change x)
    c.deref_mut.result.now c.change_by.new.state c.args.seat.now c.change_by.new.seat c.in-Ok.made.1) c.in-Miss.is
    c.in-Ok.ensures.made) c.fill.ensures.goes

pub returns-in-Wait-clause-tried : goal.returns-in-Wait-clause-tried
returns-in-Wait-clause-tried g c =
    only_try c.args.handle _ _ _ _ _ _ _ c.in-Ok.ensures.made (change_plain c.args.change c.args.handle c.args.bytes.now)
    (subst (λ (x : WriteAnswer). IsUndone (reply_of c.args.change x)) (sym c.in-Wait.is) tt)

pub returns-in-Ok-fill-clause-tried : goal.returns-in-Ok-fill-clause-tried
returns-in-Ok-fill-clause-tried g c =
    only_missed c.args.handle _ _ _ _ _ _ _ _ _ c.in-Ok.ensures.made (change_plain c.args.change c.args.handle c.args.bytes.now)
    (subst (λ (x : WriteAnswer). IsUndone (reply_of c.args.change x)) (sym c.in-Miss.is) tt) c.demand_of-demand-2.ensures
    c.fill.ensures.only

pub returns-in-Err-fill-clause-only : goal.returns-in-Err-fill-clause-only
returns-in-Err-fill-clause-only g c =
    only_missed c.args.handle _ _ _ _ _ _ _ _ _ c.in-Ok.ensures.made (change_plain c.args.change c.args.handle c.args.bytes.now)
    (subst (λ (x : WriteAnswer). IsUndone (reply_of c.args.change x)) (sym c.in-Miss.is) tt) c.demand_of-demand-2.ensures
    c.fill.ensures.only

pub returns-in-Ok-settle-clause-tried : goal.returns-in-Ok-settle-clause-tried
returns-in-Ok-settle-clause-tried g c =
    only_settled g.B.Naming.files g.B.Naming.sizes g.B.Naming.name g.B.Naming.whole c.args.handle (event_of c.args.change c.args.handle c.args.bytes.now) c.deref_mut.result.now
    c.change_by.new.state c.args.seat.now c.change_by.new.seat c.settle.new.seat c.in-Err.denied c.in-Err.ensures.denied
    (change_plain c.args.change c.args.handle c.args.bytes.now) c.settle.ensures.only

pub returns-in-Err-settle-clause-only : goal.returns-in-Err-settle-clause-only
returns-in-Err-settle-clause-only g c =
    only_settled g.B.Naming.files g.B.Naming.sizes g.B.Naming.name g.B.Naming.whole c.args.handle (event_of c.args.change c.args.handle c.args.bytes.now) c.deref_mut.result.now
    c.change_by.new.state c.args.seat.now c.change_by.new.seat c.settle.new.seat c.in-Err.denied c.in-Err.ensures.denied
    (change_plain c.args.change c.args.handle c.args.bytes.now) c.settle.ensures.only

pub returns-in-Wrote-clause-once : goal.returns-in-Wrote-clause-once
returns-in-Wrote-clause-once g c = once_by _ _ _ _ _ _ _ _ c.in-Ok.ensures.made

-- the change was refused, and stands so if the cache is crammed
pub returns-in-Err-settle-clause-lost : goal.returns-in-Err-settle-clause-lost
returns-in-Err-settle-clause-lost g c =
    lost_denied g.B.Naming.whole g.B.Naming.files g.B.Naming.sizes g.B.Naming.name (event_of c.args.change c.args.handle c.args.bytes.now) c.deref_mut.result.now
    c.change_by.new.state c.args.seat.now c.change_by.new.seat c.settle.new.seat c.in-Err.denied c.in-Err-settle.denied
    c.settle.ensures.within (change_asked c.args.change c.args.handle c.args.bytes.now) c.in-Err.ensures.denied
    c.settle.ensures.legal c.settle.ensures.goes c.in-Err-settle.ensures.crammed

pub returns-in-Err-settle-clause-stands : goal.returns-in-Err-settle-clause-stands
returns-in-Err-settle-clause-stands g c =
    final_denied g.B.Naming.whole g.B.Naming.files g.B.Naming.sizes g.B.Naming.name (event_of c.args.change c.args.handle c.args.bytes.now) c.deref_mut.result.now
    c.change_by.new.state c.args.seat.now c.change_by.new.seat c.settle.new.seat c.in-Err.denied c.in-Err-settle.denied
    c.in-Err.ensures.denied c.settle.ensures.legal c.settle.ensures.goes c.in-Err-settle.ensures.stands

-- memory is asked for after the change was refused for want of room, or its page was missing
pub returns-in-Err-settle-clause-wanting : goal.returns-in-Err-settle-clause-wanting
returns-in-Err-settle-clause-wanting g c =
    short_settled g.B.Naming.files g.B.Naming.sizes g.B.Naming.name g.B.Naming.whole c.args.change c.args.handle c.args.bytes.now c.deref_mut.result.now c.change_by.new.state c.args.seat.now
    c.change_by.new.seat c.settle.new.seat c.in-Err.denied c.in-Err-settle.denied c.in-Err.ensures.denied
    c.settle.ensures.goes c.in-Err-settle.ensures.other

pub returns-in-Err-fill-clause-wanting : goal.returns-in-Err-fill-clause-wanting
returns-in-Err-fill-clause-wanting g c =
    short_missed (event_of c.args.change c.args.handle c.args.bytes.now) (reply.Miss c.in-Miss.page) c.deref_mut.result.now
    c.change_by.new.state c.args.seat.now c.change_by.new.seat c.fill.new.seat c.in-Ok.made.1 c.in-Err-fill.denied tt
    (subst (λ (x : WriteAnswer). Made (event_of c.args.change c.args.handle c.args.bytes.now) (reply_of c.args.change x)
    c.deref_mut.result.now c.change_by.new.state c.args.seat.now c.change_by.new.seat c.in-Ok.made.1) c.in-Miss.is
    c.in-Ok.ensures.made) c.fill.ensures.goes

-- a change begins no request, and fills no page by itself
pub returns-in-Wrote-clause-settled : goal.returns-in-Wrote-clause-settled
returns-in-Wrote-clause-settled g c =
    settles_by g.B.Naming.name _ _ _ _ _ _ _ (λ x b. change_begins x c.args.change c.args.handle c.args.bytes.now _ b)
    (change_ends c.args.change c.args.handle c.args.bytes.now) c.in-Ok.ensures.made

pub returns-in-Wait-clause-settled : goal.returns-in-Wait-clause-settled
returns-in-Wait-clause-settled g c =
    settles_by g.B.Naming.name _ _ _ _ _ _ _ (λ x b. change_begins x c.args.change c.args.handle c.args.bytes.now _ b)
    (change_ends c.args.change c.args.handle c.args.bytes.now) c.in-Ok.ensures.made

pub returns-in-Ok-fill-clause-settled : goal.returns-in-Ok-fill-clause-settled
returns-in-Ok-fill-clause-settled g c =
    settles_on g.B.Naming.name c.args.seat.now c.change_by.new.seat c.fill.new.seat
    (settles_by g.B.Naming.name _ _ _ _ _ _ _ (λ x b. change_begins x c.args.change c.args.handle c.args.bytes.now _ b)
    (change_ends c.args.change c.args.handle c.args.bytes.now) c.in-Ok.ensures.made) c.in-Ok-fill.ensures.settled

pub returns-in-Err-fill-clause-settled : goal.returns-in-Err-fill-clause-settled
returns-in-Err-fill-clause-settled g c =
    settles_on g.B.Naming.name c.args.seat.now c.change_by.new.seat c.fill.new.seat
    (settles_by g.B.Naming.name _ _ _ _ _ _ _ (λ x b. change_begins x c.args.change c.args.handle c.args.bytes.now _ b)
    (change_ends c.args.change c.args.handle c.args.bytes.now) c.in-Ok.ensures.made) c.in-Err-fill.ensures.settled

pub returns-in-Ok-settle-clause-settled : goal.returns-in-Ok-settle-clause-settled
returns-in-Ok-settle-clause-settled g c =
    settles_on g.B.Naming.name c.args.seat.now c.change_by.new.seat c.settle.new.seat
    (settles_denied g.B.Naming.files g.B.Naming.sizes g.B.Naming.whole g.B.Naming.name (event_of c.args.change c.args.handle c.args.bytes.now) c.deref_mut.result.now
    c.change_by.new.state c.args.seat.now c.change_by.new.seat c.in-Err.denied
    (change_ends c.args.change c.args.handle c.args.bytes.now) c.in-Err.ensures.denied) c.in-Ok-settle.ensures.settled

pub returns-in-Err-settle-clause-settled : goal.returns-in-Err-settle-clause-settled
returns-in-Err-settle-clause-settled g c =
    settles_on g.B.Naming.name c.args.seat.now c.change_by.new.seat c.settle.new.seat
    (settles_denied g.B.Naming.files g.B.Naming.sizes g.B.Naming.whole g.B.Naming.name (event_of c.args.change c.args.handle c.args.bytes.now) c.deref_mut.result.now
    c.change_by.new.state c.args.seat.now c.change_by.new.seat c.in-Err.denied
    (change_ends c.args.change c.args.handle c.args.bytes.now) c.in-Err.ensures.denied) c.in-Err-settle.ensures.settled

pub returns-in-Wrote-clause-missed : goal.returns-in-Wrote-clause-missed
returns-in-Wrote-clause-missed g c =
    let own = event_of c.args.change c.args.handle c.args.bytes.now in
    missed_by own _ _ _ _ _ _ _ (λ p f. change_fills p c.args.change c.args.handle c.args.bytes.now _ f) c.in-Ok.ensures.made

pub returns-in-Wait-clause-missed : goal.returns-in-Wait-clause-missed
returns-in-Wait-clause-missed g c =
    let own = event_of c.args.change c.args.handle c.args.bytes.now in
    missed_by own _ _ _ _ _ _ _ (λ p f. change_fills p c.args.change c.args.handle c.args.bytes.now _ f) c.in-Ok.ensures.made

pub returns-in-Ok-fill-clause-missed : goal.returns-in-Ok-fill-clause-missed
returns-in-Ok-fill-clause-missed g c =
    let own = event_of c.args.change c.args.handle c.args.bytes.now in
    missed_filled own c.in-Miss.page c.deref_mut.result.now c.change_by.new.state c.args.seat.now c.change_by.new.seat
    c.fill.new.seat c.in-Ok.made.1 (λ p r f. change_fills p c.args.change c.args.handle c.args.bytes.now r f)
    (λ r. change_noted c.args.change c.args.handle c.args.bytes.now r)
    (subst (λ (x : WriteAnswer). Made own (reply_of c.args.change x) c.deref_mut.result.now c.change_by.new.state
    c.args.seat.now c.change_by.new.seat c.in-Ok.made.1) c.in-Miss.is c.in-Ok.ensures.made) c.fill.ensures.page

pub returns-in-Err-fill-clause-missed : goal.returns-in-Err-fill-clause-missed
returns-in-Err-fill-clause-missed g c =
    let own = event_of c.args.change c.args.handle c.args.bytes.now in
    missed_filled own c.in-Miss.page c.deref_mut.result.now c.change_by.new.state c.args.seat.now c.change_by.new.seat
    c.fill.new.seat c.in-Ok.made.1 (λ p r f. change_fills p c.args.change c.args.handle c.args.bytes.now r f)
    (λ r. change_noted c.args.change c.args.handle c.args.bytes.now r)
    (subst (λ (x : WriteAnswer). Made own (reply_of c.args.change x) c.deref_mut.result.now c.change_by.new.state
    c.args.seat.now c.change_by.new.seat c.in-Ok.made.1) c.in-Miss.is c.in-Ok.ensures.made) c.fill.ensures.page

pub returns-in-Ok-settle-clause-missed : goal.returns-in-Ok-settle-clause-missed
returns-in-Ok-settle-clause-missed g c =
    let own = event_of c.args.change c.args.handle c.args.bytes.now in
    missed_on own c.args.seat.now c.change_by.new.seat c.settle.new.seat
    (missed_denied g.B.Naming.files g.B.Naming.sizes g.B.Naming.name g.B.Naming.whole own own c.deref_mut.result.now c.change_by.new.state c.args.seat.now c.change_by.new.seat c.in-Err.denied
    (λ p r f. change_fills p c.args.change c.args.handle c.args.bytes.now r f) c.in-Err.ensures.denied)
    (missed_room own c.change_by.new.seat c.settle.new.seat c.settle.ensures.only)

pub returns-in-Err-settle-clause-missed : goal.returns-in-Err-settle-clause-missed
returns-in-Err-settle-clause-missed g c =
    let own = event_of c.args.change c.args.handle c.args.bytes.now in
    missed_on own c.args.seat.now c.change_by.new.seat c.settle.new.seat
    (missed_denied g.B.Naming.files g.B.Naming.sizes g.B.Naming.name g.B.Naming.whole own own c.deref_mut.result.now c.change_by.new.state c.args.seat.now c.change_by.new.seat c.in-Err.denied
    (λ p r f. change_fills p c.args.change c.args.handle c.args.bytes.now r f) c.in-Err.ensures.denied)
    (missed_room own c.change_by.new.seat c.settle.new.seat c.settle.ensures.only)

pub returns-in-Ok-settle-clause-again : goal.returns-in-Ok-settle-clause-again
returns-in-Ok-settle-clause-again g c =
    retries_denied g.B.Naming.files g.B.Naming.sizes g.B.Naming.name g.B.Naming.whole (event_of c.args.change c.args.handle c.args.bytes.now) c.deref_mut.result.now c.change_by.new.state
    c.args.seat.now c.change_by.new.seat c.settle.new.seat c.in-Err.denied
    (change_noted c.args.change c.args.handle c.args.bytes.now) c.in-Ok-settle.ensures.passing c.in-Err.ensures.denied
    c.settle.ensures.goes

-- its own event came first
pub returns-in-Wrote-clause-first : goal.returns-in-Wrote-clause-first
returns-in-Wrote-clause-first g c =
    first_made _ _ _ _ _ _ _ (change_noted c.args.change c.args.handle c.args.bytes.now) c.in-Ok.ensures.made

pub returns-in-Wait-clause-first : goal.returns-in-Wait-clause-first
returns-in-Wait-clause-first g c =
    first_made _ _ _ _ _ _ _ (change_noted c.args.change c.args.handle c.args.bytes.now) c.in-Ok.ensures.made

pub returns-in-Ok-fill-clause-first : goal.returns-in-Ok-fill-clause-first
returns-in-Ok-fill-clause-first g c =
    first_again (event_of c.args.change c.args.handle c.args.bytes.now) c.args.seat.now c.fill.new.seat
    (retries_by (event_of c.args.change c.args.handle c.args.bytes.now) (reply.Miss c.in-Miss.page)
    c.deref_mut.result.now c.change_by.new.state c.args.seat.now c.change_by.new.seat c.fill.new.seat
    c.in-Ok.made.1 (change_noted c.args.change c.args.handle c.args.bytes.now) tt
    (subst (λ (x : WriteAnswer). Made (event_of c.args.change c.args.handle c.args.bytes.now) (reply_of c.args.change x)
    c.deref_mut.result.now c.change_by.new.state c.args.seat.now c.change_by.new.seat c.in-Ok.made.1) c.in-Miss.is
    c.in-Ok.ensures.made) c.fill.ensures.goes)

pub returns-in-Ok-settle-clause-first : goal.returns-in-Ok-settle-clause-first
returns-in-Ok-settle-clause-first g c =
    first_settled g.B.Naming.files g.B.Naming.sizes g.B.Naming.name g.B.Naming.whole (event_of c.args.change c.args.handle c.args.bytes.now) c.deref_mut.result.now c.change_by.new.state
    c.args.seat.now c.change_by.new.seat c.settle.new.seat c.in-Err.denied
    (change_noted c.args.change c.args.handle c.args.bytes.now) (wants_pass c.in-Err.denied.refusal) c.settle.ensures.quiet
    c.in-Err.ensures.denied c.settle.ensures.goes

pub returns-in-Err-fill-clause-first : goal.returns-in-Err-fill-clause-first
returns-in-Err-fill-clause-first g c =
    first_again (event_of c.args.change c.args.handle c.args.bytes.now) c.args.seat.now c.fill.new.seat
    (retries_by (event_of c.args.change c.args.handle c.args.bytes.now) (reply.Miss c.in-Miss.page)
    c.deref_mut.result.now c.change_by.new.state c.args.seat.now c.change_by.new.seat c.fill.new.seat
    c.in-Ok.made.1 (change_noted c.args.change c.args.handle c.args.bytes.now) tt
    (subst (λ (x : WriteAnswer). Made (event_of c.args.change c.args.handle c.args.bytes.now) (reply_of c.args.change x)
    c.deref_mut.result.now c.change_by.new.state c.args.seat.now c.change_by.new.seat c.in-Ok.made.1) c.in-Miss.is
    c.in-Ok.ensures.made) c.fill.ensures.goes)

pub returns-in-Err-settle-clause-first : goal.returns-in-Err-settle-clause-first
returns-in-Err-settle-clause-first g c =
    first_settled g.B.Naming.files g.B.Naming.sizes g.B.Naming.name g.B.Naming.whole (event_of c.args.change c.args.handle c.args.bytes.now) c.deref_mut.result.now c.change_by.new.state
    c.args.seat.now c.change_by.new.seat c.settle.new.seat c.in-Err.denied
    (change_noted c.args.change c.args.handle c.args.bytes.now) (wants_pass c.in-Err.denied.refusal) c.settle.ensures.quiet
    c.in-Err.ensures.denied c.settle.ensures.goes

-- who is told to wait can: a request is in flight
pub wait_for_end-requires : goal.wait_for_end-requires
wait_for_end-requires g c =
    change_busy c.deref_mut.result.now.core.state c.args.change c.args.handle c.args.bytes.now c.in-Wait.field-0
    c.change_by.new.state.core.state
    (subst (λ (x : WriteAnswer). Made (event_of c.args.change c.args.handle c.args.bytes.now) (reply_of c.args.change x)
    c.deref_mut.result.now c.change_by.new.state c.args.seat.now c.change_by.new.seat c.in-Ok.made.1) c.in-Wait.is
    c.in-Ok.ensures.made).step
