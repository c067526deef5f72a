use Rattle.std.proofs.Common.{◌≡◌, ◌⊎◌, length}
use Rattle.machine.specs.declared.event.Event.TheVariants as event
use Rattle.held.specs.Called.{Goes, Only}
use Rattle.shared.specs.Called.{Retries}
use Rattle.shared.specs.Own.{IsTry}
use Rattle.shared.specs.Settled.{FillsMissed, Settles}
use Rattle.shared.proofs.cache.SharedCache.pread.Given as goal

abbrev pub invariant-attempts : goal.invariant-attempts
invariant-attempts g l = record {
  goes : Goes l.initial.seat l.seat;
  tried :
      Only (IsTry l.fn.handle.number (event.Read l.fn.handle.number l.fn.offset (length l.initial.out)))
      l.initial.seat l.seat;
  first :
      (l.seat ≡ l.initial.seat)
      ⊎ Retries l.initial.seat l.seat (event.Read l.fn.handle.number l.fn.offset (length l.initial.out));
  settled : Settles g.B.Naming.name l.initial.seat l.seat;
  missed :
      FillsMissed (event.Read l.fn.handle.number l.fn.offset (length l.initial.out)) l.initial.seat l.seat;
  out : l.out ≡ l.initial.out;
}
