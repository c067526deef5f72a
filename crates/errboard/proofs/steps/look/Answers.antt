use Rattle.std.proofs.Common.{rules}
use Rattle.errboard.proofs.Polls.{looks_as}
use Rattle.errboard.proofs.steps.look.Goals as goal

pub load-requires : goal.load-requires
load-requires c = (search rules, search rules, looks_as _ _ _ _ _ _ _ _ _ _ c.requires.pass)
