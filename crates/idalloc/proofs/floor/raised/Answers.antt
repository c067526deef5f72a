use Rattle.std.proofs.Common.{arith}
use Rattle.idalloc.proofs.FloorLemmas.{floor-insert, floor-raised}
use Rattle.idalloc.proofs.floor.raised.Goals as goal

pub returns-then-min-floor : goal.returns-then-min-floor
returns-then-min-floor c = λ used max below found. floor-raised used c.args.floor c.args.min max c.args.number c.saturating_add.result below c.if-min-floor.true found (omega (arith, c.saturating_add.ensures))

pub returns-else-min-floor : goal.returns-else-min-floor
returns-else-min-floor c = λ used max below found. floor-insert used c.args.floor c.args.number below
