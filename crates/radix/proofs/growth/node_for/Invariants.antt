use Rattle.std.proofs.Common.{◌≡◌, ◌-◌, Some}
use Rattle.slab.specs.Slab.{get, HasRoomFor}
use Rattle.radix.specs.Tree.{IsSound, HasCome, SameSlots, level_of}
use Rattle.radix.proofs.growth.node_for.Given as goal

abbrev pub invariant-down : goal.invariant-down
invariant-down l = record {
  sound : IsSound l.nodes l.head (Some l.key);
  come : HasCome l.nodes l.key l.level l.index;
  entries : SameSlots l.initial.nodes l.nodes;
  room : HasRoomFor l.nodes (level_of (get l.nodes l.key) - l.level);
  capacity : l.nodes.capacity ≡ l.initial.nodes.capacity;
}

abbrev pub decreases-down : goal.decreases-down
decreases-down l = level_of (get l.nodes l.key)
