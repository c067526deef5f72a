use Rattle.tests_shards.proofs.worker_rows.Hand.carries_out.Goals as goal

pub invariant_of-self : goal.invariant_of-self
invariant_of-self g c = (c.io_worker.ensures.count, c.io_worker.ensures.workers, c.io_worker.ensures.seated c.self.invariant.2)
