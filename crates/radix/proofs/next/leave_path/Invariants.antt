use Rattle.std.proofs.Common.{◌≡◌}
use Rattle.slab.specs.Slab.{get}
use Rattle.radix.specs.Tree.{HasLeft, level_of}
use Rattle.radix.proofs.next.leave_path.Given as goal

abbrev pub invariant-down : goal.invariant-down
invariant-down l = record {
  left : HasLeft l.nodes l.mark l.index l.key l.best;
  counted : level_of (get l.nodes l.key) ≡ l.level;
}

abbrev pub decreases-down : goal.decreases-down
decreases-down l = l.level
