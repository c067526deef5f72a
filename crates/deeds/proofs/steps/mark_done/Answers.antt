use Rattle.std.proofs.Common.{rules}
use Rattle.deeds.proofs.Keeps.{carries_as}
use Rattle.deeds.proofs.steps.mark_done.Goals as goal

pub load-requires : goal.load-requires
load-requires g c = (search rules, search rules, carries_as _ _ _ _ _ _ _ _ c.requires.device c.requires.comes)
