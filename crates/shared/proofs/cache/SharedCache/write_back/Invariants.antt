use Rattle.std.proofs.Common.{◌≡◌}
use Rattle.held.specs.Called.{Goes, Only}
use Rattle.shared.specs.Settled.{EndsOwn}
use Rattle.shared.specs.Workers.{AllCarried, IsWorkerOf, IsWriteBack, company_of, popped_by}
use Rattle.shared.proofs.Carrying.{Puts}
use Rattle.shared.proofs.cache.SharedCache.write_back.Given as goal

abbrev pub invariant-turns : goal.invariant-turns
invariant-turns g l = record {
  worker : IsWorkerOf l.self.ring g.B.Naming.name g.B.Naming.table g.B.NamesDeeds.deeds g.B.Naming.sizes l.worker;
  goes : Goes l.initial.worker.seat l.worker.seat;
  only : Only (λ e. IsWriteBack e.event) l.initial.worker.seat l.worker.seat;
  own : EndsOwn g.B.Naming.name l.initial.worker.seat l.worker.seat;
  popped : popped_by l.worker ≡ popped_by l.initial.worker;
  alone : company_of l.worker ≡ company_of l.initial.worker;
  puts : Puts l.initial.worker l.worker;
  carried : AllCarried l.initial.worker l.worker;
}
