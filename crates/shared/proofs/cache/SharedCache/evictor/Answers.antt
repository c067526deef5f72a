use Rattle.std.proofs.Common.{◌∙◌}
use Rattle.held.proofs.Seats.{goes_on}
use Rattle.shared.proofs.Owning.{eviction_on}
use Rattle.shared.proofs.cache.SharedCache.evictor.Goals as goal

pub turns-preserved : goal.turns-preserved
turns-preserved g c = record {
  worker = c.evictor_turn.ensures.worker;
  goes = goes_on c.args.worker.now.seat c.turns.worker.seat c.evictor_turn.new.worker.seat c.turns.invariant.goes
      c.evictor_turn.ensures.goes;
  only = eviction_on c.args.worker.now.seat c.turns.worker.seat c.evictor_turn.new.worker.seat c.turns.invariant.only
      c.evictor_turn.ensures.only;
  ring = (c.evictor_turn.ensures.ring.0 ∙ c.turns.invariant.ring.0, c.evictor_turn.ensures.ring.1 ∙ c.turns.invariant.ring.1);
  alone = c.evictor_turn.ensures.alone ∙ c.turns.invariant.alone;
}
