use Rattle.std.proofs.Common.{◌≡◌, ◌+◌, ◌≤◌, Option}
use Rattle.pc_types.specs.declared.ids.PageIndex.{PageIndex}
use Rattle.cachecore.specs.Wants.{demanded, frames_short}
use Rattle.filesvc.specs.Rooms.{MakesRooms, StaysAbsent, load}
use Rattle.filesvc.specs.Attempts.{Helps}
use Rattle.filesvc.proofs.solo.Solo.make_rooms.Given as goal

abbrev pub invariant-frames : goal.invariant-frames
invariant-frames g l = record {
  helps : (page : Option PageIndex) → Helps l.fn.demand.handle.0 page l.fn.self l.self;
  attempts : l.self.attempts ≡ l.fn.self.attempts;
  rooms : MakesRooms l.fn.demand l.counter l.fn.self l.self;
  less : load l.self.world.core + l.counter ≤ load l.fn.self.world.core;
  absent : StaysAbsent l.fn.self.world.core l.self.world.core;
  short : l.fn.short ≤ l.counter + frames_short l.self.world.core l.fn.demand.handle.0 l.fn.demand.offset (demanded l.self.world.core l.fn.demand);
}
