use Rattle.std.proofs.Common.{inl, refl}
use Rattle.held.proofs.Seats.{goes_on, goes_same, only_same}
use Rattle.shared.specs.Changes.{event_of}
use Rattle.shared.specs.Own.{IsTry}
use Rattle.shared.proofs.Owning.{once_try_on, only_try_on}
use Rattle.shared.proofs.Wanting.{short_on}
use Rattle.shared.proofs.Settling.{missed_on, missed_same, settles_on, settles_same}
use Rattle.shared.proofs.Making.{call_on, first_on, retries_on}
use Rattle.shared.proofs.cache.SharedCache.change.Goals as goal

pub attempts-init : goal.attempts-init
attempts-init g c = record {
  goes = goes_same c.args.seat.now c.args.seat.now refl;
  tried = only_same (IsTry c.args.handle (event_of c.args.change c.args.handle c.args.bytes.now)) c.args.seat.now c.args.seat.now
      refl;
  first = inl refl;
  settled = settles_same g.B.Naming.name c.args.seat.now c.args.seat.now refl;
  missed = missed_same (event_of c.args.change c.args.handle c.args.bytes.now) c.args.seat.now c.args.seat.now refl;
}

pub returns-in-Ok-Some-clause-once : goal.returns-in-Ok-Some-clause-once
returns-in-Ok-Some-clause-once g c =
    once_try_on c.args.handle (event_of c.args.change c.args.handle c.args.bytes.now) c.args.seat.now c.attempts.seat
    c.try_change.new.seat c.attempts.invariant.tried (rw c.in-Ok-Some.field-0-is at c.in-Ok-Some.ensures.once)

pub attempts-preserved : goal.attempts-preserved
attempts-preserved g c = record {
  goes = goes_on c.args.seat.now c.attempts.seat c.try_change.new.seat c.attempts.invariant.goes c.try_change.ensures.goes;
  tried = only_try_on c.args.handle (event_of c.args.change c.args.handle c.args.bytes.now) c.args.seat.now c.attempts.seat
      c.try_change.new.seat c.attempts.invariant.tried (rw c.in-Ok-None.field-0-is at c.in-Ok-None.ensures.tried);
  first = retries_on (event_of c.args.change c.args.handle c.args.bytes.now) c.args.seat.now c.attempts.seat c.try_change.new.seat
      c.attempts.invariant.first (rw c.in-Ok-None.field-0-is at c.in-Ok-None.ensures.again) c.try_change.ensures.goes;
  settled = settles_on g.B.Naming.name c.args.seat.now c.attempts.seat c.try_change.new.seat c.attempts.invariant.settled
      c.in-Ok-None.ensures.settled;
  missed = missed_on (event_of c.args.change c.args.handle c.args.bytes.now) c.args.seat.now c.attempts.seat
      c.try_change.new.seat c.attempts.invariant.missed c.try_change.ensures.missed;
}

pub returns-in-Err-clause-wanting : goal.returns-in-Err-clause-wanting
returns-in-Err-clause-wanting g c =
    short_on (event_of c.args.change c.args.handle c.args.bytes.now) c.args.seat.now c.attempts.seat c.try_change.new.seat
    c.in-Err.denied c.attempts.invariant.goes c.in-Err.ensures.wanting

pub returns-in-Ok-Some-clause-settled : goal.returns-in-Ok-Some-clause-settled
returns-in-Ok-Some-clause-settled g c =
    settles_on g.B.Naming.name c.args.seat.now c.attempts.seat c.try_change.new.seat c.attempts.invariant.settled
    c.in-Ok-Some.ensures.settled

pub returns-in-Err-clause-settled : goal.returns-in-Err-clause-settled
returns-in-Err-clause-settled g c =
    settles_on g.B.Naming.name c.args.seat.now c.attempts.seat c.try_change.new.seat
    c.attempts.invariant.settled c.in-Err.ensures.settled

pub returns-in-Ok-Some-clause-missed : goal.returns-in-Ok-Some-clause-missed
returns-in-Ok-Some-clause-missed g c =
    missed_on (event_of c.args.change c.args.handle c.args.bytes.now) c.args.seat.now c.attempts.seat c.try_change.new.seat
    c.attempts.invariant.missed c.try_change.ensures.missed

pub returns-in-Err-clause-missed : goal.returns-in-Err-clause-missed
returns-in-Err-clause-missed g c =
    missed_on (event_of c.args.change c.args.handle c.args.bytes.now) c.args.seat.now c.attempts.seat c.try_change.new.seat
    c.attempts.invariant.missed c.try_change.ensures.missed

pub returns-in-Err-clause-denied : goal.returns-in-Err-clause-denied
returns-in-Err-clause-denied g c =
    call_on g.B.Naming.files g.B.Naming.sizes g.B.Naming.name g.B.Naming.whole c.args.handle (event_of c.args.change c.args.handle c.args.bytes.now) c.args.seat.now c.attempts.seat
    c.try_change.new.seat c.in-Err.denied c.attempts.invariant.goes c.in-Err.ensures.denied

pub returns-in-Ok-Some-clause-first : goal.returns-in-Ok-Some-clause-first
returns-in-Ok-Some-clause-first g c =
    first_on (event_of c.args.change c.args.handle c.args.bytes.now) c.args.seat.now c.attempts.seat c.try_change.new.seat
    c.attempts.invariant.first c.try_change.ensures.first c.try_change.ensures.goes

pub returns-in-Err-clause-first : goal.returns-in-Err-clause-first
returns-in-Err-clause-first g c =
    first_on (event_of c.args.change c.args.handle c.args.bytes.now) c.args.seat.now c.attempts.seat c.try_change.new.seat
    c.attempts.invariant.first c.try_change.ensures.first c.try_change.ensures.goes
