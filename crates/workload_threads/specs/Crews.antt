-- Workers of one cache.
use Rattle.std.specs.Prelude.{ℕ}
use Rattle.atomic_table.specs.Seated.{TableId}
use Rattle.pc_types.specs.Limits.{Sizes}
use Rattle.ring.specs.declared.ring.Ring.{Ring}
use Rattle.shared.specs.Workers.{IsWorkerOf}
use Rattle.workload_threads.specs.declared.crew.Crew.{Crew}

-- each is a worker of the cache of this ring, name, table and sizes
pub record IsCrewOf (ring : Ring) (name : ℕ) (table deeds : TableId) (sizes : Sizes) (c : Crew) : Type 0 where
  pub flusher : IsWorkerOf ring name table deeds sizes c.flusher
  pub io : IsWorkerOf ring name table deeds sizes c.io
  pub evictor : IsWorkerOf ring name table deeds sizes c.evictor
