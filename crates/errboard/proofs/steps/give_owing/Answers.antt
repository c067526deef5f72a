use Rattle.std.proofs.Common.{rules, ap}
use Rattle.errboard.proofs.Cuts.{gives_owing_as, is_owing}
use Rattle.errboard.proofs.steps.give_owing.Goals as goal

pub split_seat-requires : goal.split_seat-requires
split_seat-requires c = (search rules, search rules, gives_owing_as _ _ _ _ _ _ _ (ap (λ m. m.0) c.find.ensures.found.0))

pub returns-clause-given : goal.returns-clause-given
returns-clause-given c = (search rules, is_owing _ _ _ _ _ _ c.find.ensures.found.0 c.split_seat.ensures.4)
