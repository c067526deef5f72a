use Rattle.std.proofs.Common.{◌≡◌}
use Rattle.held.specs.Called.{Goes, Only}
use Rattle.shared.specs.Workers.{AllEnded, AllOver, IsEnd, IsWorkerOf, company_of, pushed_by}
use Rattle.shared.proofs.close.drain.Given as goal

abbrev pub invariant-jobs : goal.invariant-jobs
invariant-jobs g l = record {
  worker : IsWorkerOf l.ring g.B.Naming.name g.B.Naming.table g.B.NamesDeeds.deeds g.B.Naming.sizes l.own;
  goes : Goes l.initial.own.seat l.own.seat;
  only : Only (λ e. IsEnd e.event) l.initial.own.seat l.own.seat;
  ended : AllEnded l.initial.own l.own;
  over : AllOver l.initial.own l.own l.state.core.state;
  pushed : pushed_by l.own ≡ pushed_by l.initial.own;
  alone : company_of l.own ≡ company_of l.initial.own;
}
