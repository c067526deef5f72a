use Rattle.std.proofs.Common.{◌≡◌, ℕ, Option}
use Rattle.pc_types.specs.declared.ids.PageIndex.{PageIndex}
use Rattle.filesvc.specs.Attempts.{Helps}
use Rattle.filesvc.specs.Rooms.{load}
use Rattle.filesvc.proofs.solo.Solo.write_all.Given as goal

abbrev pub invariant-pages : goal.invariant-pages
invariant-pages g l = record {
  helps : (k : ℕ) (page : Option PageIndex) → Helps k page l.fn.self l.self;
  attempts : l.self.attempts ≡ l.fn.self.attempts;
}

abbrev pub decreases-pages : goal.decreases-pages
decreases-pages g l = load l.self.world.core
