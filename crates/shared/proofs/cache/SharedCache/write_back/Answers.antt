use Rattle.std.proofs.Common.{◌∙◌, refl}
use Rattle.held.proofs.Seats.{goes_on, goes_same, only_same}
use Rattle.shared.specs.Workers.{IsWriteBack}
use Rattle.shared.proofs.Carrying.{carried_on, none_carried, puts_none, puts_on, turn_puts}
use Rattle.shared.proofs.Owning.{only_write_back_on}
use Rattle.shared.proofs.Settling.{own_on, own_same}
use Rattle.shared.proofs.cache.SharedCache.write_back.Goals as goal

pub turns-init : goal.turns-init
turns-init g c = record {
  worker = c.requires.worker;
  goes = goes_same c.args.worker.now.seat c.args.worker.now.seat refl;
  only = only_same (λ e. IsWriteBack e.event) c.args.worker.now.seat c.args.worker.now.seat refl;
  own = own_same g.B.Naming.name c.args.worker.now.seat c.args.worker.now.seat refl;
  popped = refl;
  alone = refl;
  puts = puts_none c.args.worker.now;
  carried = none_carried c.args.worker.now;
}

pub turns-preserved : goal.turns-preserved
turns-preserved g c = record {
  worker = c.flusher_turn-turn.ensures.worker;
  goes = goes_on c.args.worker.now.seat c.turns.worker.seat c.flusher_turn-turn.new.worker.seat c.turns.invariant.goes
      c.flusher_turn-turn.ensures.goes;
  only = only_write_back_on c.args.worker.now.seat c.turns.worker.seat c.flusher_turn-turn.new.worker.seat
      c.turns.invariant.only c.flusher_turn-turn.ensures.only;
  own = own_on g.B.Naming.name c.args.worker.now.seat c.turns.worker.seat c.flusher_turn-turn.new.worker.seat
      c.turns.invariant.own c.flusher_turn-turn.ensures.own;
  popped = c.flusher_turn-turn.ensures.popped ∙ c.turns.invariant.popped;
  alone = c.flusher_turn-turn.ensures.alone ∙ c.turns.invariant.alone;
  puts = puts_on c.args.worker.now c.turns.worker c.flusher_turn-turn.new.worker c.turns.invariant.puts
      (turn_puts g.B.Naming.files g.B.Naming.sizes g.B.Naming.name c.turns.worker c.flusher_turn-turn.new.worker c.flusher_turn-turn.result
      c.flusher_turn-turn.ensures.done c.flusher_turn-turn.ensures.unbegun);
  carried = carried_on c.args.worker.now c.turns.worker c.flusher_turn-turn.new.worker c.turns.invariant.goes
      c.flusher_turn-turn.ensures.goes c.turns.invariant.puts
      (turn_puts g.B.Naming.files g.B.Naming.sizes g.B.Naming.name c.turns.worker c.flusher_turn-turn.new.worker c.flusher_turn-turn.result
      c.flusher_turn-turn.ensures.done c.flusher_turn-turn.ensures.unbegun)
      c.turns.invariant.carried c.flusher_turn-turn.ensures.carried;
}

pub turns-preserved-after-is_idle : goal.turns-preserved-after-is_idle
turns-preserved-after-is_idle g c = record {
  worker = c.flusher_turn-turn.ensures.worker;
  goes = goes_on c.args.worker.now.seat c.turns.worker.seat c.flusher_turn-turn.new.worker.seat c.turns.invariant.goes
      c.flusher_turn-turn.ensures.goes;
  only = only_write_back_on c.args.worker.now.seat c.turns.worker.seat c.flusher_turn-turn.new.worker.seat
      c.turns.invariant.only c.flusher_turn-turn.ensures.only;
  own = own_on g.B.Naming.name c.args.worker.now.seat c.turns.worker.seat c.flusher_turn-turn.new.worker.seat
      c.turns.invariant.own c.flusher_turn-turn.ensures.own;
  popped = c.flusher_turn-turn.ensures.popped ∙ c.turns.invariant.popped;
  alone = c.flusher_turn-turn.ensures.alone ∙ c.turns.invariant.alone;
  puts = puts_on c.args.worker.now c.turns.worker c.flusher_turn-turn.new.worker c.turns.invariant.puts
      (turn_puts g.B.Naming.files g.B.Naming.sizes g.B.Naming.name c.turns.worker c.flusher_turn-turn.new.worker c.flusher_turn-turn.result
      c.flusher_turn-turn.ensures.done c.flusher_turn-turn.ensures.unbegun);
  carried = carried_on c.args.worker.now c.turns.worker c.flusher_turn-turn.new.worker c.turns.invariant.goes
      c.flusher_turn-turn.ensures.goes c.turns.invariant.puts
      (turn_puts g.B.Naming.files g.B.Naming.sizes g.B.Naming.name c.turns.worker c.flusher_turn-turn.new.worker c.flusher_turn-turn.result
      c.flusher_turn-turn.ensures.done c.flusher_turn-turn.ensures.unbegun)
      c.turns.invariant.carried c.flusher_turn-turn.ensures.carried;
}

pub turns-preserved-after-is_idle-2 : goal.turns-preserved-after-is_idle-2
turns-preserved-after-is_idle-2 g c = record {
  worker = c.flusher_turn-turn.ensures.worker;
  goes = goes_on c.args.worker.now.seat c.turns.worker.seat c.flusher_turn-turn.new.worker.seat c.turns.invariant.goes
      c.flusher_turn-turn.ensures.goes;
  only = only_write_back_on c.args.worker.now.seat c.turns.worker.seat c.flusher_turn-turn.new.worker.seat
      c.turns.invariant.only c.flusher_turn-turn.ensures.only;
  own = own_on g.B.Naming.name c.args.worker.now.seat c.turns.worker.seat c.flusher_turn-turn.new.worker.seat
      c.turns.invariant.own c.flusher_turn-turn.ensures.own;
  popped = c.flusher_turn-turn.ensures.popped ∙ c.turns.invariant.popped;
  alone = c.flusher_turn-turn.ensures.alone ∙ c.turns.invariant.alone;
  puts = puts_on c.args.worker.now c.turns.worker c.flusher_turn-turn.new.worker c.turns.invariant.puts
      (turn_puts g.B.Naming.files g.B.Naming.sizes g.B.Naming.name c.turns.worker c.flusher_turn-turn.new.worker c.flusher_turn-turn.result
      c.flusher_turn-turn.ensures.done c.flusher_turn-turn.ensures.unbegun);
  carried = carried_on c.args.worker.now c.turns.worker c.flusher_turn-turn.new.worker c.turns.invariant.goes
      c.flusher_turn-turn.ensures.goes c.turns.invariant.puts
      (turn_puts g.B.Naming.files g.B.Naming.sizes g.B.Naming.name c.turns.worker c.flusher_turn-turn.new.worker c.flusher_turn-turn.result
      c.flusher_turn-turn.ensures.done c.flusher_turn-turn.ensures.unbegun)
      c.turns.invariant.carried c.flusher_turn-turn.ensures.carried;
}

pub turns-preserved-after-is_idle-3 : goal.turns-preserved-after-is_idle-3
turns-preserved-after-is_idle-3 g c = record {
  worker = c.flusher_turn-turn.ensures.worker;
  goes = goes_on c.args.worker.now.seat c.turns.worker.seat c.flusher_turn-turn.new.worker.seat c.turns.invariant.goes
      c.flusher_turn-turn.ensures.goes;
  only = only_write_back_on c.args.worker.now.seat c.turns.worker.seat c.flusher_turn-turn.new.worker.seat
      c.turns.invariant.only c.flusher_turn-turn.ensures.only;
  own = own_on g.B.Naming.name c.args.worker.now.seat c.turns.worker.seat c.flusher_turn-turn.new.worker.seat
      c.turns.invariant.own c.flusher_turn-turn.ensures.own;
  popped = c.flusher_turn-turn.ensures.popped ∙ c.turns.invariant.popped;
  alone = c.flusher_turn-turn.ensures.alone ∙ c.turns.invariant.alone;
  puts = puts_on c.args.worker.now c.turns.worker c.flusher_turn-turn.new.worker c.turns.invariant.puts
      (turn_puts g.B.Naming.files g.B.Naming.sizes g.B.Naming.name c.turns.worker c.flusher_turn-turn.new.worker c.flusher_turn-turn.result
      c.flusher_turn-turn.ensures.done c.flusher_turn-turn.ensures.unbegun);
  carried = carried_on c.args.worker.now c.turns.worker c.flusher_turn-turn.new.worker c.turns.invariant.goes
      c.flusher_turn-turn.ensures.goes c.turns.invariant.puts
      (turn_puts g.B.Naming.files g.B.Naming.sizes g.B.Naming.name c.turns.worker c.flusher_turn-turn.new.worker c.flusher_turn-turn.result
      c.flusher_turn-turn.ensures.done c.flusher_turn-turn.ensures.unbegun)
      c.turns.invariant.carried c.flusher_turn-turn.ensures.carried;
}
