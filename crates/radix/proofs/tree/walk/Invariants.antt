use Rattle.std.proofs.Common.{◌≡◌, Some}
use Rattle.slab.specs.Slab.{get}
use Rattle.radix.specs.Tree.{HasCome, level_of}
use Rattle.radix.proofs.tree.walk.Given as goal

abbrev pub invariant-down : goal.invariant-down
invariant-down l = record {
  come : HasCome l.nodes l.key 0 l.index;
  there : get l.nodes l.key ≡ Some l.node;
  counted : level_of (get l.nodes l.key) ≡ l.level;
}

abbrev pub decreases-down : goal.decreases-down
decreases-down l = l.level
