use Rattle.std.proofs.Common.{rules, ap}
use Rattle.errboard.proofs.Cuts.{gives_pass_as, is_given}
use Rattle.errboard.proofs.steps.give_pass.Goals as goal

pub split_seat-pass-requires : goal.split_seat-pass-requires
split_seat-pass-requires c = (search rules, search rules, gives_pass_as _ _ _ _ _ _ _ (ap (λ m. m.0) c.find-found.ensures.found.0))

pub returns-clause-given : goal.returns-clause-given
returns-clause-given c =
    let f = c.find-found.ensures.found in
    (search rules, is_given _ _ _ _ _ _ f.0 c.split_seat-pass.ensures.4 f.1)
