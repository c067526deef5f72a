use Rattle.std.proofs.Common.{◌≤◌, ◌∙◌, arith, length, refl, subst, sym}
use Rattle.std.specs.Prelude.{Ok}
use Rattle.cachecore.specs.Replies.{bytes_read, was_read}
use Rattle.cachecore.specs.declared.answers.ReadAnswer.{ReadAnswer}
use Rattle.machine.specs.declared.event.Event.TheVariants as event
use Rattle.held.specs.Entered.{Made}
use Rattle.held.specs.Shown.{HeldSeen}
use Rattle.trail.specs.History.{After}
use Rattle.machine.specs.declared.event.Reply.TheVariants as reply
use Rattle.held.proofs.Seats.{goes_by, goes_same, once_by}
use Rattle.shared.specs.Called.{Makes}
use Rattle.shared.proofs.Making.{call_first, call_help, first_again, first_denied, first_made, makes_by, retries_by}
use Rattle.shared.specs.Own.{IsUndone}
use Rattle.shared.proofs.Owning.{only_missed, only_try, only_try_denied}
use Rattle.shared.proofs.Sizes.{read_counted}
use Rattle.shared.proofs.Rooming.{lost_unwanted, read_unwanted}
use Rattle.shared.proofs.Waiting.{read_busy}
use Rattle.shared.proofs.Wanting.{short_denied, short_missed}
use Rattle.shared.proofs.Settling.{missed_by, missed_denied, missed_filled, settles_by, settles_denied, settles_on}
use Rattle.shared.proofs.cache.SharedCache.try_read.Goals as goal

pub returns-in-Bytes-clause-answer : goal.returns-in-Bytes-clause-answer
returns-in-Bytes-clause-answer g c =
    subst (λ (x : ReadAnswer). Makes c.args.seat.now c.read.new.seat c.in-Ok.made.1
    (event.Read c.args.handle c.args.offset (length c.args.out.now)) (was_read (Ok x) c.read.new.out)) c.in-Bytes.is
    (makes_by _ _ _ _ _ _ _ c.in-Ok.ensures.made)

pub returns-in-Err-fill-clause-denied : goal.returns-in-Err-fill-clause-denied
returns-in-Err-fill-clause-denied g c =
    call_help g.B.Naming.files g.B.Naming.sizes g.B.Naming.name g.B.Naming.whole c.args.handle (event.Read c.args.handle c.args.offset (length c.args.out.now)) c.args.seat.now
    c.read.new.seat c.fill.new.seat c.in-Err-fill.denied (goes_by _ _ _ _ _ _ _ c.in-Ok.ensures.made)
    c.in-Err-fill.ensures.denied

pub returns-in-Err-clause-denied : goal.returns-in-Err-clause-denied
returns-in-Err-clause-denied g c =
    call_first g.B.Naming.files g.B.Naming.sizes g.B.Naming.name g.B.Naming.whole c.args.handle (event.Read c.args.handle c.args.offset (length c.args.out.now)) c.deref_mut.result.now
    c.read.new.self c.args.seat.now c.read.new.seat c.in-Err.denied tt c.in-Err.ensures.denied

pub returns-in-Wait-clause-again : goal.returns-in-Wait-clause-again
returns-in-Wait-clause-again g c =
    retries_by (event.Read c.args.handle c.args.offset (length c.args.out.now)) (reply.Wait c.in-Wait.field-0)
    c.deref_mut.result.now c.read.new.self c.args.seat.now c.read.new.seat c.read.new.seat c.in-Ok.made.1 (λ r. refl) tt
    (subst (λ (x : ReadAnswer). Made (event.Read c.args.handle c.args.offset (length c.args.out.now))
    (was_read (Ok x) c.read.new.out) c.deref_mut.result.now c.read.new.self c.args.seat.now c.read.new.seat
    c.in-Ok.made.1) c.in-Wait.is c.in-Ok.ensures.made) (goes_same c.read.new.seat c.read.new.seat refl)

pub returns-in-Ok-fill-clause-again : goal.returns-in-Ok-fill-clause-again
returns-in-Ok-fill-clause-again g c =
    retries_by (event.Read c.args.handle c.args.offset (length c.args.out.now)) (reply.Miss c.in-Miss.page)
    c.deref_mut.result.now c.read.new.self c.args.seat.now c.read.new.seat c.fill.new.seat c.in-Ok.made.1 (λ r. refl) tt
    (subst (λ (x : ReadAnswer). Made (event.Read c.args.handle c.args.offset (length c.args.out.now))
    (was_read (Ok x) c.read.new.out) c.deref_mut.result.now c.read.new.self c.args.seat.now c.read.new.seat
    c.in-Ok.made.1) c.in-Miss.is c.in-Ok.ensures.made) c.fill.ensures.goes

pub returns-in-Bytes-clause-within : goal.returns-in-Bytes-clause-within
returns-in-Bytes-clause-within g c small =
    let counted : c.in-Bytes.count ≤ length c.args.out.now =
    subst (λ (x : ReadAnswer). bytes_read (Ok x) ≤ length c.args.out.now) c.in-Bytes.is c.in-Ok.ensures.count in
    let as_long = c.read.auto.out in
    read_counted g.B.Naming.files c.args.handle c.args.offset (length c.args.out.now) c.in-Bytes.count c.read.new.out
    c.deref_mut.result.now c.read.new.self c.args.seat.now c.read.new.seat c.in-Ok.made.1 (omega arith)
    (subst (λ (s : HeldSeen). After g.B.Naming.files s.core.state.sizes s.core.state.name s.log.history s.core.state)
    (c.deref.ensures ∙ sym c.deref_mut.ensures.value) c.core.ensures.legal)
    (subst (λ (x : ReadAnswer). Made (event.Read c.args.handle c.args.offset (length c.args.out.now))
    (was_read (Ok x) c.read.new.out) c.deref_mut.result.now c.read.new.self c.args.seat.now c.read.new.seat
    c.in-Ok.made.1) c.in-Bytes.is c.in-Ok.ensures.made) small

-- the page is filling, or missing
pub returns-in-Wait-clause-tried : goal.returns-in-Wait-clause-tried
returns-in-Wait-clause-tried g c =
    only_try c.args.handle _ _ _ _ _ _ _ c.in-Ok.ensures.made tt
    (subst (λ (x : ReadAnswer). IsUndone (was_read (Ok x) c.read.new.out)) (sym c.in-Wait.is) tt)

pub returns-in-Ok-fill-clause-tried : goal.returns-in-Ok-fill-clause-tried
returns-in-Ok-fill-clause-tried g c =
    only_missed c.args.handle c.args.handle _ _ _ _ _ _ _ _ c.in-Ok.ensures.made tt
    (subst (λ (x : ReadAnswer). IsUndone (was_read (Ok x) c.read.new.out)) (sym c.in-Miss.is) tt) refl c.fill.ensures.only

pub returns-in-Err-fill-clause-only : goal.returns-in-Err-fill-clause-only
returns-in-Err-fill-clause-only g c =
    only_missed c.args.handle c.args.handle _ _ _ _ _ _ _ _ c.in-Ok.ensures.made tt
    (subst (λ (x : ReadAnswer). IsUndone (was_read (Ok x) c.read.new.out)) (sym c.in-Miss.is) tt) refl c.fill.ensures.only

pub returns-in-Bytes-clause-once : goal.returns-in-Bytes-clause-once
returns-in-Bytes-clause-once g c = once_by _ _ _ _ _ _ _ _ c.in-Ok.ensures.made

pub returns-in-Err-clause-only : goal.returns-in-Err-clause-only
returns-in-Err-clause-only g c =
    only_try_denied g.B.Naming.files g.B.Naming.sizes g.B.Naming.name g.B.Naming.whole c.args.handle (event.Read c.args.handle c.args.offset (length c.args.out.now)) c.deref_mut.result.now
    c.read.new.self c.args.seat.now c.read.new.seat c.in-Err.denied c.in-Err.ensures.denied tt

-- a read wants no room
pub returns-in-Err-clause-lost : goal.returns-in-Err-clause-lost
returns-in-Err-clause-lost g c =
    lost_unwanted g.B.Naming.files g.B.Naming.sizes g.B.Naming.name c.read.new.seat c.in-Err.denied
    (read_unwanted g.B.Naming.files g.B.Naming.sizes g.B.Naming.name g.B.Naming.whole c.args.handle c.args.offset (length c.args.out.now) c.deref_mut.result.now c.read.new.self c.args.seat.now
    c.read.new.seat c.in-Err.denied c.in-Err.ensures.denied)

-- memory is asked for after the page was missing
pub returns-in-Err-clause-wanting : goal.returns-in-Err-clause-wanting
returns-in-Err-clause-wanting g c =
    let own = event.Read c.args.handle c.args.offset (length c.args.out.now) in
    short_denied g.B.Naming.files g.B.Naming.sizes g.B.Naming.name g.B.Naming.whole own own c.deref_mut.result.now c.read.new.self c.args.seat.now c.read.new.seat c.args.seat.now c.read.new.seat
    c.in-Err.denied c.in-Err.ensures.denied

pub returns-in-Err-fill-clause-wanting : goal.returns-in-Err-fill-clause-wanting
returns-in-Err-fill-clause-wanting g c =
    short_missed (event.Read c.args.handle c.args.offset (length c.args.out.now)) (reply.Miss c.in-Miss.page)
    c.deref_mut.result.now c.read.new.self c.args.seat.now c.read.new.seat c.fill.new.seat c.in-Ok.made.1 c.in-Err-fill.denied tt
    (subst (λ (x : ReadAnswer). Made (event.Read c.args.handle c.args.offset (length c.args.out.now))
    (was_read (Ok x) c.read.new.out) c.deref_mut.result.now c.read.new.self c.args.seat.now c.read.new.seat
    c.in-Ok.made.1) c.in-Miss.is c.in-Ok.ensures.made) c.fill.ensures.goes

-- a read begins no request, and fills no page by itself
pub returns-in-Err-clause-settled : goal.returns-in-Err-clause-settled
returns-in-Err-clause-settled g c =
    (settles_denied g.B.Naming.files g.B.Naming.sizes g.B.Naming.whole g.B.Naming.name (event.Read c.args.handle c.args.offset (length c.args.out.now)) c.deref_mut.result.now
    c.read.new.self c.args.seat.now c.read.new.seat c.in-Err.denied (λ is. is) c.in-Err.ensures.denied)

pub returns-in-Bytes-clause-settled : goal.returns-in-Bytes-clause-settled
returns-in-Bytes-clause-settled g c =
    settles_by g.B.Naming.name _ _ _ _ _ _ _ (λ x b. b) (λ is. is) c.in-Ok.ensures.made

pub returns-in-Wait-clause-settled : goal.returns-in-Wait-clause-settled
returns-in-Wait-clause-settled g c =
    settles_by g.B.Naming.name _ _ _ _ _ _ _ (λ x b. b) (λ is. is) c.in-Ok.ensures.made

pub returns-in-Ok-fill-clause-settled : goal.returns-in-Ok-fill-clause-settled
returns-in-Ok-fill-clause-settled g c =
    settles_on g.B.Naming.name c.args.seat.now c.read.new.seat c.fill.new.seat
    (settles_by g.B.Naming.name _ _ _ _ _ _ _ (λ x b. b) (λ is. is) c.in-Ok.ensures.made) c.in-Ok-fill.ensures.settled

pub returns-in-Err-fill-clause-settled : goal.returns-in-Err-fill-clause-settled
returns-in-Err-fill-clause-settled g c =
    settles_on g.B.Naming.name c.args.seat.now c.read.new.seat c.fill.new.seat
    (settles_by g.B.Naming.name _ _ _ _ _ _ _ (λ x b. b) (λ is. is) c.in-Ok.ensures.made) c.in-Err-fill.ensures.settled

pub returns-in-Err-clause-missed : goal.returns-in-Err-clause-missed
returns-in-Err-clause-missed g c =
    let own = event.Read c.args.handle c.args.offset (length c.args.out.now) in
    missed_denied g.B.Naming.files g.B.Naming.sizes g.B.Naming.name g.B.Naming.whole own own c.deref_mut.result.now c.read.new.self c.args.seat.now c.read.new.seat c.in-Err.denied
    (λ p r f. f) c.in-Err.ensures.denied

pub returns-in-Bytes-clause-missed : goal.returns-in-Bytes-clause-missed
returns-in-Bytes-clause-missed g c = missed_by _ _ _ _ _ _ _ _ (λ p f. f) c.in-Ok.ensures.made

pub returns-in-Wait-clause-missed : goal.returns-in-Wait-clause-missed
returns-in-Wait-clause-missed g c = missed_by _ _ _ _ _ _ _ _ (λ p f. f) c.in-Ok.ensures.made

pub returns-in-Ok-fill-clause-missed : goal.returns-in-Ok-fill-clause-missed
returns-in-Ok-fill-clause-missed g c =
    let own = event.Read c.args.handle c.args.offset (length c.args.out.now) in
    missed_filled own c.in-Miss.page c.deref_mut.result.now c.read.new.self c.args.seat.now c.read.new.seat c.fill.new.seat
    c.in-Ok.made.1 (λ q r f. f) (λ r. refl)
    (subst (λ (x : ReadAnswer). Made own (was_read (Ok x) c.read.new.out) c.deref_mut.result.now c.read.new.self c.args.seat.now
    c.read.new.seat c.in-Ok.made.1) c.in-Miss.is c.in-Ok.ensures.made) c.fill.ensures.page

pub returns-in-Err-fill-clause-missed : goal.returns-in-Err-fill-clause-missed
returns-in-Err-fill-clause-missed g c =
    let own = event.Read c.args.handle c.args.offset (length c.args.out.now) in
    missed_filled own c.in-Miss.page c.deref_mut.result.now c.read.new.self c.args.seat.now c.read.new.seat c.fill.new.seat
    c.in-Ok.made.1 (λ q r f. f) (λ r. refl)
    (subst (λ (x : ReadAnswer). Made own (was_read (Ok x) c.read.new.out) c.deref_mut.result.now c.read.new.self c.args.seat.now
    c.read.new.seat c.in-Ok.made.1) c.in-Miss.is c.in-Ok.ensures.made) c.fill.ensures.page

-- its own event came first
pub returns-in-Err-clause-first : goal.returns-in-Err-clause-first
returns-in-Err-clause-first g c =
    first_denied g.B.Naming.files g.B.Naming.sizes g.B.Naming.name g.B.Naming.whole (event.Read c.args.handle c.args.offset (length c.args.out.now)) c.deref_mut.result.now c.read.new.self
    c.args.seat.now c.read.new.seat c.in-Err.denied (λ r. refl) c.in-Err.ensures.denied

pub returns-in-Bytes-clause-first : goal.returns-in-Bytes-clause-first
returns-in-Bytes-clause-first g c = first_made _ _ _ _ _ _ _ (λ r. refl) c.in-Ok.ensures.made

pub returns-in-Wait-clause-first : goal.returns-in-Wait-clause-first
returns-in-Wait-clause-first g c = first_made _ _ _ _ _ _ _ (λ r. refl) c.in-Ok.ensures.made

pub returns-in-Ok-fill-clause-first : goal.returns-in-Ok-fill-clause-first
returns-in-Ok-fill-clause-first g c =
    first_again (event.Read c.args.handle c.args.offset (length c.args.out.now)) c.args.seat.now c.fill.new.seat
    (retries_by (event.Read c.args.handle c.args.offset (length c.args.out.now)) (reply.Miss c.in-Miss.page)
    c.deref_mut.result.now c.read.new.self c.args.seat.now c.read.new.seat c.fill.new.seat c.in-Ok.made.1 (λ r. refl) tt
    (subst (λ (x : ReadAnswer). Made (event.Read c.args.handle c.args.offset (length c.args.out.now))
    (was_read (Ok x) c.read.new.out) c.deref_mut.result.now c.read.new.self c.args.seat.now c.read.new.seat
    c.in-Ok.made.1) c.in-Miss.is c.in-Ok.ensures.made) c.fill.ensures.goes)

pub returns-in-Err-fill-clause-first : goal.returns-in-Err-fill-clause-first
returns-in-Err-fill-clause-first g c =
    first_again (event.Read c.args.handle c.args.offset (length c.args.out.now)) c.args.seat.now c.fill.new.seat
    (retries_by (event.Read c.args.handle c.args.offset (length c.args.out.now)) (reply.Miss c.in-Miss.page)
    c.deref_mut.result.now c.read.new.self c.args.seat.now c.read.new.seat c.fill.new.seat c.in-Ok.made.1 (λ r. refl) tt
    (subst (λ (x : ReadAnswer). Made (event.Read c.args.handle c.args.offset (length c.args.out.now))
    (was_read (Ok x) c.read.new.out) c.deref_mut.result.now c.read.new.self c.args.seat.now c.read.new.seat
    c.in-Ok.made.1) c.in-Miss.is c.in-Ok.ensures.made) c.fill.ensures.goes)

-- who is told to wait can: a request is in flight
pub wait_for_end-requires : goal.wait_for_end-requires
wait_for_end-requires g c =
    read_busy c.deref_mut.result.now.core.state c.args.handle c.args.offset (length c.args.out.now) c.in-Wait.field-0
    c.read.new.self.core.state
    (subst (λ (x : ReadAnswer). Made (event.Read c.args.handle c.args.offset (length c.args.out.now))
    (was_read (Ok x) c.read.new.out) c.deref_mut.result.now c.read.new.self c.args.seat.now c.read.new.seat
    c.in-Ok.made.1) c.in-Wait.is c.in-Ok.ensures.made).step
