use Rattle.std.proofs.Common.{rules, ℕ, ap, subst, ◌∙◌}
use Rattle.atomic_table.specs.Table.{Me}
use Rattle.deeds.specs.Rules.{ComparedFrom}
use Rattle.deeds.specs.Views.{together}
use Rattle.deeds.specs.declared.views.View.{View}
use Rattle.deeds.proofs.Keeps.{takes_in, compares_as, all_home}
use Rattle.deeds.proofs.steps.close.Goals as goal

pub join_seat-requires : goal.join_seat-requires
join_seat-requires c = (search rules, search rules, search rules, search rules, takes_in _ _ _ _)

pub load-requires : goal.load-requires
load-requires c = (
  search rules,
  search rules,
  compares_as _ _ _ _ _ _
      (c.join_seat.ensures.2
      ∙ (λ i. (together (c.requires.desk i).0 (c.requires.device i).0, (c.requires.desk i).1))),
)

pub returns-clause-whole : goal.returns-clause-whole
returns-clause-whole c =
    let is = ap (λ (m : Me ℕ View). m.0)
    (c.join_seat.ensures.2
    ∙ (λ i. (together (c.requires.desk i).0 (c.requires.device i).0, (c.requires.desk i).1))) in
    let knows = subst (λ (v : View). ComparedFrom v.device v.desk) is c.load.ensures.2.1 in
    λ none. all_home _ _ _ knows none
