use Rattle.std.proofs.Common.{rules}
use Rattle.deeds.proofs.Keeps.{opens_as, parts_device}
use Rattle.deeds.proofs.steps.learn.Goals as goal

pub load-requires : goal.load-requires
load-requires g c = (search rules, search rules, opens_as _ _ _ _ _ c.requires.desk)

pub split_seat-requires : goal.split_seat-requires
split_seat-requires g c = (search rules, search rules, parts_device _ _)
