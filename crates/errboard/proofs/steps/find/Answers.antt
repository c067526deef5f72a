use Rattle.std.proofs.Common.{rules}
use Rattle.errboard.proofs.Recordings.{finds_as}
use Rattle.errboard.proofs.steps.find.Goals as goal

pub load-requires : goal.load-requires
load-requires c = (search rules, search rules, finds_as _ _ _ _ _ _ _ _ c.requires.recorder c.requires.at.2)
