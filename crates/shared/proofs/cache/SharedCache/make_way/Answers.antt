use Rattle.held.proofs.Seats.{goes_on}
use Rattle.shared.proofs.Making.{room_on}
use Rattle.shared.proofs.Owning.{only_room_on}
use Rattle.shared.proofs.Settling.{settles_on}
use Rattle.shared.proofs.cache.SharedCache.make_way.Goals as goal

pub turns-preserved : goal.turns-preserved
turns-preserved g c = record {
  goes = goes_on c.args.seat.now c.turns.seat c.make_room.new.seat c.turns.invariant.goes c.make_room.ensures.goes;
  only = only_room_on c.args.seat.now c.turns.seat c.make_room.new.seat c.turns.invariant.only c.make_room.ensures.only;
  settled = settles_on g.B.Naming.name c.args.seat.now c.turns.seat c.make_room.new.seat c.turns.invariant.settled
      c.in-Ok-true.ensures.settled;
}

pub returns-in-Ok-false-clause-settled : goal.returns-in-Ok-false-clause-settled
returns-in-Ok-false-clause-settled g c =
    settles_on g.B.Naming.name c.args.seat.now c.turns.seat c.make_room.new.seat c.turns.invariant.settled
    c.in-Ok-false.ensures.settled

pub returns-in-Err-clause-settled : goal.returns-in-Err-clause-settled
returns-in-Err-clause-settled g c =
    settles_on g.B.Naming.name c.args.seat.now c.turns.seat c.make_room.new.seat c.turns.invariant.settled
    c.in-Err.ensures.settled

pub returns-in-Err-clause-denied : goal.returns-in-Err-clause-denied
returns-in-Err-clause-denied g c =
    room_on g.B.Naming.files g.B.Naming.sizes g.B.Naming.name g.B.Naming.whole c.args.seat.now c.turns.seat c.make_room.new.seat c.in-Err.denied c.turns.invariant.goes c.in-Err.ensures.denied
