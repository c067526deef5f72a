use Rattle.std.proofs.Common.{◌≡◌, Option, None}
use Rattle.pc_types.specs.declared.ids.PageIndex.{PageIndex}
use Rattle.filesvc.specs.Rooms.{StaysAbsent, load, wanted}
use Rattle.filesvc.specs.Attempts.{Helps}
use Rattle.filesvc.proofs.solo.Solo.make_way.Given as goal

abbrev pub invariant-turns : goal.invariant-turns
invariant-turns g l = record {
  helps : (page : Option PageIndex) → Helps l.fn.demand.handle.0 page l.fn.self l.self;
  attempts : l.self.attempts ≡ l.fn.self.attempts;
  absent : StaysAbsent l.fn.self.world.core l.self.world.core;
  kept : wanted l.fn.self.world.core l.fn.demand ≡ None → l.self ≡ l.fn.self;
}

abbrev pub decreases-turns : goal.decreases-turns
decreases-turns g l = load l.self.world.core
