use Rattle.std.proofs.Common.{◌≡◌}
use Rattle.held.specs.Called.{Goes, Only}
use Rattle.shared.specs.Workers.{AllEnded, IsEnd, IsWorkerOf, company_of, pushed_by}
use Rattle.shared.proofs.cache.SharedCache.io_worker.Given as goal

abbrev pub invariant-turns : goal.invariant-turns
invariant-turns g l = record {
  worker : IsWorkerOf l.self.ring g.B.Naming.name g.B.Naming.table g.B.NamesDeeds.deeds g.B.Naming.sizes l.worker;
  goes : Goes l.initial.worker.seat l.worker.seat;
  only : Only (λ e. IsEnd e.event) l.initial.worker.seat l.worker.seat;
  pushed : pushed_by l.worker ≡ pushed_by l.initial.worker;
  alone : company_of l.worker ≡ company_of l.initial.worker;
  ended : AllEnded l.initial.worker l.worker;
}
