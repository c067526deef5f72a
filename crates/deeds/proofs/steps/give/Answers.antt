use Rattle.std.proofs.Common.{rules}
use Rattle.deeds.proofs.Keeps.{parts_deed}
use Rattle.deeds.proofs.steps.give.Goals as goal

pub split_seat-requires : goal.split_seat-requires
split_seat-requires c = (search rules, search rules, parts_deed _ _)
