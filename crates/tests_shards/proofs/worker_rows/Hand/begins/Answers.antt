use Rattle.tests_shards.proofs.worker_rows.Hand.begins.Goals as goal

pub invariant_of-self : goal.invariant_of-self
invariant_of-self g c = (c.flusher_turn-begun.ensures.count, c.flusher_turn-begun.ensures.workers, c.flusher_turn-begun.ensures.seated c.self.invariant.2)

pub invariant_of-self-2 : goal.invariant_of-self-2
invariant_of-self-2 g c = (c.flusher_turn-begun.ensures.count, c.flusher_turn-begun.ensures.workers, c.flusher_turn-begun.ensures.seated c.self.invariant.2)
