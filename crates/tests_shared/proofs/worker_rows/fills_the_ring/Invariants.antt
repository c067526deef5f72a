use Rattle.std.proofs.Common.{◌≡◌}
use Rattle.shared.specs.Workers.{IsWorkerOf}
use Rattle.tests_shared.proofs.worker_rows.fills_the_ring.Given as goal

abbrev pub invariant-loop-page : goal.invariant-loop-page
invariant-loop-page g l = record {
  caller : l.caller.table ≡ l.fn.caller.table;
  worker : IsWorkerOf l.fn.cache.ring g.B.Naming.name g.B.Naming.table g.B.NamesDeeds.deeds g.B.Naming.sizes l.worker;
}
