use Rattle.std.proofs.Common.{◌≡◌, ◌⊎◌}
use Rattle.held.specs.Called.{Goes, Only}
use Rattle.shared.specs.Called.{Retries}
use Rattle.shared.specs.Changes.{event_of}
use Rattle.shared.specs.Own.{IsTry}
use Rattle.shared.specs.Settled.{FillsMissed, Settles}
use Rattle.shared.proofs.cache.SharedCache.change.Given as goal

abbrev pub invariant-attempts : goal.invariant-attempts
invariant-attempts g l = record {
  goes : Goes l.initial.seat l.seat;
  tried : Only (IsTry l.fn.handle (event_of l.fn.change l.fn.handle l.fn.bytes)) l.initial.seat l.seat;
  first : (l.seat ≡ l.initial.seat) ⊎ Retries l.initial.seat l.seat (event_of l.fn.change l.fn.handle l.fn.bytes);
  settled : Settles g.B.Naming.name l.initial.seat l.seat;
  missed : FillsMissed (event_of l.fn.change l.fn.handle l.fn.bytes) l.initial.seat l.seat;
}
