use Rattle.std.proofs.Common.{rules, ap, ◌∙◌}
use Rattle.errboard.specs.Views.{with_pass}
use Rattle.errboard.proofs.Cuts.{takes_back_as, confirms_as, joined_back}
use Rattle.errboard.proofs.steps.take_back.Goals as goal

pub join_seat-requires : goal.join_seat-requires
join_seat-requires c = (
  search rules,
  search rules,
  search rules,
  search rules,
  takes_back_as _ _ _ _ _ _ _ _ _ _ _ _ (ap (λ m. m.0) c.requires.recorder) (ap (λ m. m.0) c.requires.pass),
)

pub load-requires : goal.load-requires
load-requires c =
    let is = joined_back _ _ _ _ _ _ _ _ _ _ (ap (λ m. m.0) c.requires.recorder) (ap (λ m. m.0) c.requires.pass) (c.join_seat.ensures.2 ∙ ap (λ l. (with_pass c.args.seat.now.me.0 c.args.other.me.0, l)) (ap (λ m. m.1) c.requires.recorder)) in
    (search rules, search rules, confirms_as _ _ _ _ _ _ _ _ _ _ _ _ is)
