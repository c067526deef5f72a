use Rattle.std.proofs.Common.{◌∙◌, refl, rules}
use Rattle.held.proofs.Seats.{goes_on, goes_same, only_same}
use Rattle.shared.specs.Workers.{IsEnd}
use Rattle.shared.proofs.Ending.{none_ended, turn_ended, was_idle}
use Rattle.shared.proofs.Owning.{only_ends_on}
use Rattle.shared.proofs.cache.SharedCache.io_worker.Goals as goal

pub returns-then-is_over-clause-ended : goal.returns-then-is_over-clause-ended
returns-then-is_over-clause-ended g c =
    turn_ended c.args.worker.now c.turns.worker c.io_turn.new.worker c.io_turn.result c.args.self.now.name
    g.B.Naming.board c.turns.invariant.ended c.turns.invariant.goes c.io_turn.ensures.goes
    c.io_turn.ensures.idle c.io_turn.ensures.ended

pub returns-then-is_over-clause-emptied : goal.returns-then-is_over-clause-emptied
returns-then-is_over-clause-emptied g c =
    was_idle c.io_turn.result c.io_turn.new.worker (search rules) c.io_turn.ensures.emptied

pub turns-preserved-then-is_idle : goal.turns-preserved-then-is_idle
turns-preserved-then-is_idle g c = record {
  worker = c.io_turn.ensures.worker;
  goes = goes_on c.args.worker.now.seat c.turns.worker.seat c.io_turn.new.worker.seat c.turns.invariant.goes
      c.io_turn.ensures.goes;
  only = only_ends_on c.args.worker.now.seat c.turns.worker.seat c.io_turn.new.worker.seat
      c.turns.invariant.only c.io_turn.ensures.only;
  pushed = c.io_turn.ensures.pushed ∙ c.turns.invariant.pushed;
  alone = c.io_turn.ensures.alone ∙ c.turns.invariant.alone;
  ended = turn_ended c.args.worker.now c.turns.worker c.io_turn.new.worker c.io_turn.result c.args.self.now.name
      g.B.Naming.board c.turns.invariant.ended c.turns.invariant.goes c.io_turn.ensures.goes
      c.io_turn.ensures.idle c.io_turn.ensures.ended;
}

pub turns-preserved : goal.turns-preserved
turns-preserved g c = record {
  worker = c.io_turn.ensures.worker;
  goes = goes_on c.args.worker.now.seat c.turns.worker.seat c.io_turn.new.worker.seat c.turns.invariant.goes
      c.io_turn.ensures.goes;
  only = only_ends_on c.args.worker.now.seat c.turns.worker.seat c.io_turn.new.worker.seat
      c.turns.invariant.only c.io_turn.ensures.only;
  pushed = c.io_turn.ensures.pushed ∙ c.turns.invariant.pushed;
  alone = c.io_turn.ensures.alone ∙ c.turns.invariant.alone;
  ended = turn_ended c.args.worker.now c.turns.worker c.io_turn.new.worker c.io_turn.result c.args.self.now.name
      g.B.Naming.board c.turns.invariant.ended c.turns.invariant.goes c.io_turn.ensures.goes
      c.io_turn.ensures.idle c.io_turn.ensures.ended;
}

pub turns-init : goal.turns-init
turns-init g c = record {
  worker = c.requires.worker;
  goes = goes_same c.args.worker.now.seat c.args.worker.now.seat refl;
  only = only_same (λ e. IsEnd e.event) c.args.worker.now.seat c.args.worker.now.seat refl;
  pushed = refl;
  alone = refl;
  ended = none_ended c.args.worker.now;
}
