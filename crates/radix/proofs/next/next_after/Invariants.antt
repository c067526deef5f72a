use Rattle.std.proofs.Common.{◌-◌}
use Rattle.slab.specs.Slab.{get}
use Rattle.radix.specs.Tree.{HasClimbed, level_of}
use Rattle.radix.proofs.next.next_after.Given as goal

abbrev pub invariant-up : goal.invariant-up
invariant-up l = HasClimbed l.nodes l.mark l.index l.key l.offset

abbrev pub decreases-up : goal.decreases-up
decreases-up l = 10 - level_of (get l.nodes l.key)
