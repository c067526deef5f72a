use Rattle.std.proofs.Common.{rules}
use Rattle.held.proofs.Keeps.{compares_as}
use Rattle.held.proofs.steps.compare.Goals as goal

pub load-requires : goal.load-requires
load-requires c = (search rules, search rules, compares_as _ _ _ _ _ _ _ _ _ c.requires.keeper)
