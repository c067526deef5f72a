use Rattle.tests_shards.proofs.worker_rows.Hand.writes_back.Goals as goal

pub invariant_of-self : goal.invariant_of-self
invariant_of-self g c = (c.flusher.ensures.count, c.flusher.ensures.workers, c.flusher.ensures.seated c.self.invariant.2)
