use Rattle.std.proofs.Common.{◌-◌, Some}
use Rattle.slab.specs.Slab.{get, ContainsKey}
use Rattle.radix.specs.Tree.{IsSound, SameSlots, level_of}
use Rattle.radix.proofs.removal.prune.Given as goal

abbrev pub invariant-up : goal.invariant-up
invariant-up l = record {
  sound : IsSound l.nodes l.head (Some l.child);
  there : ContainsKey l.nodes l.child;
  entries : SameSlots l.initial.nodes l.nodes;
}

abbrev pub decreases-up : goal.decreases-up
decreases-up l = 10 - level_of (get l.nodes l.child)
