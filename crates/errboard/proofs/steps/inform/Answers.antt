use Rattle.std.proofs.Common.{rules, ap, ◌∙◌}
use Rattle.errboard.proofs.Cuts.{copies_receipt_as, informs_as, rests}
use Rattle.errboard.proofs.steps.inform.Goals as goal

pub split_seat-note-requires : goal.split_seat-note-requires
split_seat-note-requires c = (search rules, search rules, copies_receipt_as _ _ _ _ _ (ap (λ m. m.0) c.requires.receipt))

pub join_seat-requires : goal.join_seat-requires
join_seat-requires c = (
  search rules,
  search rules,
  search rules,
  search rules,
  informs_as _ _ _ _ _ _ _ _ _ _ _ _ (ap (λ m. m.0) c.requires.pass) (ap (λ m. m.0) c.split_seat-note.ensures.4 ∙ ap (λ m. m.0) c.requires.receipt),
)

pub load-requires : goal.load-requires
load-requires c = (search rules, search rules, rests _ _ _ _ _)
