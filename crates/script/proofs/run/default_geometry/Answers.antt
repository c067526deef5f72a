use Rattle.std.proofs.Common.{refl}
use Rattle.script.proofs.run.default_geometry.Goals as goal

pub unwrap-requires : goal.unwrap-requires
unfolding lib.Count.ones
unwrap-requires c = c.new.ensures.within.1 refl
