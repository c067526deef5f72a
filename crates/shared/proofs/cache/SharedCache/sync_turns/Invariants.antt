use Rattle.std.proofs.Common.{◌≡◌, length}
use Rattle.held.specs.Called.{Goes, Only}
use Rattle.shared.specs.Settled.{Settles}
use Rattle.shared.specs.Synced.{IsTurnTry}
use Rattle.shared.proofs.cache.SharedCache.sync_turns.Given as goal

abbrev pub invariant-turns : goal.invariant-turns
invariant-turns g l = record {
  goes : Goes l.initial.seat l.seat;
  only : Only (IsTurnTry l.fn.sync) l.initial.seat l.seat;
  pass : l.pass ≡ l.initial.pass;
  settled : Settles g.B.Naming.name l.initial.seat l.seat;
  size : length l.buffer ≡ g.B.Naming.sizes.page;
}
