use Rattle.std.proofs.Common.{◌∙◌, ◌<◌, w64, arith, ap, refl}
use Rattle.std.proofs.Math.Facts.{Fits-lt-pow}
use Rattle.std.proofs.lemmas.Bool.{MatchBool-at_false}
use Rattle.slab.specs.Slab.{get}
use Rattle.radix.specs.Tree.{level_of}
use Rattle.radix.proofs.DescentLemmas.{SameSlots-trans}
use Rattle.radix.proofs.HeadLemmas.{not_highest}
use Rattle.radix.proofs.RoomLemmas.{down_room, not_high, one_room, next_room}
use Rattle.radix.proofs.growth.cover.Goals as goal
use Rattle.radix.proofs.growth.cover.Goals.{Else-covers}

pub up-init : goal.up-init
up-init c = record {
  sound = c.requires.sound;
  entries = record { entries = λ level place. refl; marks = λ mark level place low. refl };
  room = c.requires.room;
  capacity = refl;
}

pub covers-requires : goal.covers-requires
covers-requires c = (c.up.invariant.sound.tree.nodes c.up.head c.index.result.now c.index.ensures).level

pub returns-then-covers-clause-room : goal.returns-then-covers-clause-room
returns-then-covers-clause-room c = down_room c.up.nodes c.up.head c.up.invariant.sound.tree c.index.result.now c.index.ensures c.args.level c.args.index c.up.invariant.room

low_top : (c : Else-covers) → level_of (get c.up.nodes c.up.head) < 10
low_top c =
    let low = (c.up.invariant.sound.tree.nodes c.up.head c.index.result.now c.index.ensures).level in
    let e = ap level_of c.index.ensures in
    let f = not_highest c.args.index c.index.result.now.level c.args.level (Fits-lt-pow {w = w64} c.ranges.index) low c.requires.level (MatchBool-at_false _ _ c.if-covers.false c.covers.ensures) in
    omega (arith, e, f)

more_top : (c : Else-covers) → c.index.result.now.level < c.up.invariant.room.enough.height
more_top c = not_high c.up.nodes c.up.head c.up.invariant.sound.tree c.index.result.now c.index.ensures c.args.level c.args.index c.up.invariant.room (MatchBool-at_false _ _ c.if-covers.false c.covers.ensures)

pub add_head-head-requires : goal.add_head-head-requires
add_head-head-requires c =
    let at = (goal.at.add_head-head-requires c).Else-covers in
    record {
      sound = c.up.invariant.sound;
      low = low_top at;
      room = one_room c.up.nodes c.up.head c.up.invariant.sound.tree c.index.result.now c.index.ensures c.args.level c.args.index c.up.invariant.room (more_top at);
      small = c.up.invariant.room.keys;
    }

pub up-smaller : goal.up-smaller
up-smaller c = let f = low_top (goal.at.up-smaller c).Else-covers in omega (arith, c.add_head-head.ensures.level, f)

pub up-preserved : goal.up-preserved
up-preserved c =
    let m = more_top (goal.at.up-preserved c).Else-covers in
    let h = c.add_head-head.ensures in
    record {
      sound = h.sound;
      entries = SameSlots-trans c.args.nodes.now c.up.nodes c.add_head-head.new.nodes c.up.invariant.entries h.entries;
      room = next_room c.up.nodes c.up.head c.up.invariant.sound.tree c.index.result.now c.index.ensures c.args.level c.args.index c.up.invariant.room m c.add_head-head.new.nodes c.add_head-head.result h.sound.tree h.level h.len h.capacity;
      capacity = h.capacity ∙ c.up.invariant.capacity;
    }
