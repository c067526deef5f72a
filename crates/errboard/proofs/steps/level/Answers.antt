use Rattle.std.proofs.Common.{rules, ap}
use Rattle.errboard.proofs.Cuts.{copies_pass_as}
use Rattle.errboard.proofs.steps.level.Goals as goal

pub split_seat-copy-requires : goal.split_seat-copy-requires
split_seat-copy-requires c = (search rules, search rules, copies_pass_as _ _ _ _ _ _ _ _ (ap (λ m. m.0) c.requires.pass))
