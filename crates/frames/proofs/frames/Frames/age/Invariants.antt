use Rattle.std.proofs.Common.{◌≡◌, ◌+◌, ◌≤◌, ◌++◌, length, take, drop}
use Rattle.frames.specs.Table.{kept, cleared}
use Rattle.frames.specs.Tied.{IsTied}
use Rattle.frames.specs.Order.{IsInOrder}
use Rattle.frames.proofs.frames.Frames.age.Given as goal

abbrev pub invariant-loop-self : goal.invariant-loop-self
invariant-loop-self l = record {
  tied : IsTied l.self-inside.lists l.self-inside.free l.self-inside.referenced.items l.self-inside.owners.items l.self-inside.bytes;
  order : IsInOrder l.self-inside.lists l.self-inside.aside.items l.self-inside.order;
  flags : l.self-inside.aside.items ≡ l.fn.self.aside;
  moved : l.moved + length l.self-inside.lists.active ≡ length l.fn.self.active;
  border : kept l.fn.self ≤ length l.self-inside.lists.active;
  active : l.self-inside.lists.active ≡ take (length l.self-inside.lists.active) l.fn.self.active;
  inactive : l.self-inside.lists.inactive ≡ drop (length l.self-inside.lists.active) l.fn.self.active ++ l.fn.self.inactive;
  referenced : l.self-inside.referenced.items ≡ cleared (drop (length l.self-inside.lists.active) l.fn.self.active) l.fn.self.referenced;
  owners : l.self-inside.owners.items ≡ l.fn.self.owners;
  size : l.self-inside.bytes.size ≡ l.fn.self.size;
  bytes : l.self-inside.bytes.rows ≡ l.fn.self.bytes;
}

abbrev pub decreases-loop-self : goal.decreases-loop-self
decreases-loop-self l = length l.self-inside.lists.active
