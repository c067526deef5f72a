use Rattle.std.proofs.Common.{◌≡◌, ◌-◌, None}
use Rattle.slab.specs.Slab.{get}
use Rattle.radix.specs.Entries.{HasPathRoom}
use Rattle.radix.specs.Tree.{IsSound, SameSlots, level_of}
use Rattle.radix.proofs.growth.cover.Given as goal

abbrev pub invariant-up : goal.invariant-up
invariant-up l = record {
  sound : IsSound l.nodes l.head None;
  entries : SameSlots l.initial.nodes l.nodes;
  room : HasPathRoom l.nodes l.level l.index;
  capacity : l.nodes.capacity ≡ l.initial.nodes.capacity;
}

abbrev pub decreases-up : goal.decreases-up
decreases-up l = 10 - level_of (get l.nodes l.head)
