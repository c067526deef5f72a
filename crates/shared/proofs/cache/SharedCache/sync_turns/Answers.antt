use Rattle.std.proofs.Common.{◌∙◌}
use Rattle.held.proofs.Seats.{goes_on}
use Rattle.shared.proofs.Owning.{once_turn_on, turn_try_on}
use Rattle.shared.proofs.Settling.{settles_on}
use Rattle.shared.proofs.Syncing.{turn_on}
use Rattle.shared.proofs.cache.SharedCache.sync_turns.Goals as goal

pub returns-in-Some-ended-clause-once : goal.returns-in-Some-ended-clause-once
returns-in-Some-ended-clause-once g c = once_turn_on c.args.sync c.args.seat.now c.turns.seat c.sync_turn.new.seat
    c.turns.invariant.only (rw c.in-Some-ended.is at c.in-Ok.ensures.once)

pub returns-in-Err-clause-tried : goal.returns-in-Err-clause-tried
returns-in-Err-clause-tried g c = turn_try_on c.args.sync c.args.seat.now c.turns.seat c.sync_turn.new.seat
    c.turns.invariant.only c.in-Err.ensures.tried

pub turns-preserved : goal.turns-preserved
turns-preserved g c = record {
  goes = goes_on c.args.seat.now c.turns.seat c.sync_turn.new.seat c.turns.invariant.goes c.sync_turn.ensures.goes;
  only = turn_try_on c.args.sync c.args.seat.now c.turns.seat c.sync_turn.new.seat c.turns.invariant.only
      (rw c.in_default.is at c.in-Ok.ensures.goes_on);
  pass = (rw c.in_default.is at c.in-Ok.ensures.again) ∙ c.turns.invariant.pass;
  settled = settles_on g.B.Naming.name c.args.seat.now c.turns.seat c.sync_turn.new.seat c.turns.invariant.settled
      c.in-Ok.ensures.settled;
  size = c.in-Ok.ensures.back;
}

pub returns-in-Err-clause-denied : goal.returns-in-Err-clause-denied
returns-in-Err-clause-denied g c = turn_on g.B.Naming.files g.B.Naming.sizes g.B.Naming.name g.B.Naming.whole c.args.sync c.args.seat.now c.turns.seat c.sync_turn.new.seat c.in-Err.denied
    c.turns.invariant.goes c.in-Err.ensures.denied

pub returns-in-Some-ended-clause-settled : goal.returns-in-Some-ended-clause-settled
returns-in-Some-ended-clause-settled g c =
    settles_on g.B.Naming.name c.args.seat.now c.turns.seat c.sync_turn.new.seat c.turns.invariant.settled
    c.in-Ok.ensures.settled

pub returns-in-Err-clause-settled : goal.returns-in-Err-clause-settled
returns-in-Err-clause-settled g c =
    settles_on g.B.Naming.name c.args.seat.now c.turns.seat c.sync_turn.new.seat c.turns.invariant.settled
    c.in-Err.ensures.settled
