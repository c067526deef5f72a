use Rattle.std.proofs.Common.{rules, ◌∙◌}
use Rattle.deeds.specs.Views.{together}
use Rattle.deeds.proofs.Keeps.{takes_in, takes_back_as}
use Rattle.deeds.proofs.steps.take_undone.Goals as goal

pub join_seat-requires : goal.join_seat-requires
join_seat-requires c = (search rules, search rules, search rules, search rules, takes_in _ _ _ _)

pub load-requires : goal.load-requires
load-requires c = (
  search rules,
  search rules,
  takes_back_as _ _ _ _ _ _ _
      (c.join_seat.ensures.2
      ∙ (λ i. (together (c.requires.desk i).0 (c.requires.deed i).0, (c.requires.desk i).1))),
)
