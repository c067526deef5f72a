use Rattle.std.proofs.Common.{rules}
use Rattle.held.proofs.Keeps.{counted_as}
use Rattle.held.proofs.log.Seat.see.Goals as goal

pub invariant_of-self : goal.invariant_of-self
invariant_of-self c =
    let i = c.self.invariant in (
      search rules,
      search rules,
      search rules,
      counted_as _ _ _ _ i.2 c.look-found.ensures.seat.1 c.look-found.ensures.counted,
    )
