use Rattle.tests_shards.proofs.worker_rows.Hand.lets_go.Goals as goal

pub invariant_of-self : goal.invariant_of-self
invariant_of-self g c = (c.evictor.ensures.count, c.evictor.ensures.workers, c.evictor.ensures.seated c.self.invariant.2)
