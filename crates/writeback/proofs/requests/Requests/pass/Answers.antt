use Rattle.std.proofs.Common.{arith, map, ◌+◌}
use Rattle.writeback.specs.Requests.{entry_of}
use Rattle.writeback.proofs.RisingLemmas.{rising_high}
use Rattle.writeback.proofs.requests.Requests.pass.Goals as goal

pub invariant_of-self : goal.invariant_of-self
invariant_of-self c = (
  rising_high 0 c.self.inside.next (c.self.inside.next + 1) (map entry_of c.self.inside.in_flight.items) (omega arith)
      c.self.invariant.0,
  c.self.invariant.1,
)
