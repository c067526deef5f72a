use Rattle.std.proofs.Common.{◌≡◌, ◌*◌, ◌≤◌, length}
use Rattle.frames.proofs.OrderLemmas.{IsPacked}
use Rattle.frames.proofs.order.Order.renumber.Given as goal

abbrev pub invariant-loop-turn : goal.invariant-loop-turn
invariant-loop-turn l = record {
  end : l.turn-end ≤ length l.fn.self.turns * 4;
  packed : IsPacked l.fn.self.turns l.turn l.turn-end l.given l.self.turns;
  active : l.self.active ≡ l.fn.self.active;
  inactive : l.self.inactive ≡ l.fn.self.inactive;
}
