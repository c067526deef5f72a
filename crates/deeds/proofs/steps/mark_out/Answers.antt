use Rattle.std.proofs.Common.{rules}
use Rattle.deeds.proofs.Keeps.{gives_as}
use Rattle.deeds.proofs.steps.mark_out.Goals as goal

pub load-requires : goal.load-requires
load-requires g c = (search rules, search rules, gives_as _ _ _ _ _ _ _ c.requires.desk c.requires.home)
