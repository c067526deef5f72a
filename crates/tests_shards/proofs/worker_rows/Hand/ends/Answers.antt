use Rattle.tests_shards.proofs.worker_rows.Hand.ends.Goals as goal

pub invariant_of-self : goal.invariant_of-self
invariant_of-self g c = (c.io_turn.ensures.count, c.io_turn.ensures.workers, c.io_turn.ensures.seated c.self.invariant.2)
