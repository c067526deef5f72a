use Rattle.held.specs.Called.{Goes, Only}
use Rattle.shared.specs.Own.{IsRoomEvent}
use Rattle.shared.specs.Settled.{Settles}
use Rattle.shared.proofs.cache.SharedCache.make_way.Given as goal

abbrev pub invariant-turns : goal.invariant-turns
invariant-turns g l = record {
  goes : Goes l.initial.seat l.seat;
  only : Only (λ e. IsRoomEvent e.event) l.initial.seat l.seat;
  settled : Settles g.B.Naming.name l.initial.seat l.seat;
}
