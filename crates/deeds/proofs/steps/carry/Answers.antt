use Rattle.std.proofs.Common.{rules}
use Rattle.deeds.proofs.Keeps.{parts_deed, takes_in}
use Rattle.deeds.proofs.steps.carry.Goals as goal

pub join_seat-requires : goal.join_seat-requires
join_seat-requires g c = (search rules, search rules, search rules, search rules, takes_in _ _ _ _)

pub split_seat-requires : goal.split_seat-requires
split_seat-requires g c = (search rules, search rules, parts_deed _ _)
