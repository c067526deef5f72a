use Rattle.std.proofs.Common.{◌≡◌, ◌<◌, ℕ, ◌-◌, ◌^◌}
use Rattle.std.specs.Prelude.{min}
use Rattle.held.specs.Called.{Goes, Only}
use Rattle.shared.specs.Own.{IsEviction}
use Rattle.shared.specs.Workers.{IsWorkerOf, LetsGo, company_of, popped_by, pushed_by}
use Rattle.shared.proofs.cache.SharedCache.evictor_turn.Given as goal

abbrev pub invariant-pages : goal.invariant-pages
invariant-pages g l = record {
  worker : IsWorkerOf l.self.ring g.B.Naming.name g.B.Naming.table g.B.NamesDeeds.deeds g.B.Naming.sizes l.worker;
  goes : Goes l.initial.worker.seat l.worker.seat;
  only : Only (λ e. IsEviction e.event) l.initial.worker.seat l.worker.seat;
  gone : (pages : ℕ) × LetsGo pages l.initial.worker.seat l.worker.seat × (l.gone ≡ min pages (2 ^ 64 - 1));
  ring : (popped_by l.worker ≡ popped_by l.initial.worker) × (pushed_by l.worker ≡ pushed_by l.initial.worker);
  alone : company_of l.worker ≡ company_of l.initial.worker;
  passed : 0 < l.gone → g.G.Gate.passed l.gate 0;
}
