use Rattle.slab.specs.Slab.{get}
use Rattle.radix.specs.Tree.{HasCome, level_of}
use Rattle.radix.proofs.marks.marked_down.Given as goal

abbrev pub invariant-down : goal.invariant-down
invariant-down l = HasCome l.nodes l.key l.level l.index

abbrev pub decreases-down : goal.decreases-down
decreases-down l = level_of (get l.nodes l.key)
