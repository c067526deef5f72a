use Rattle.std.proofs.Common.{rules, ap, ◌∙◌}
use Rattle.errboard.specs.Views.{informed}
use Rattle.errboard.proofs.Cuts.{gives_receipt_as, informs_as, note_is, told_all}
use Rattle.errboard.proofs.steps.hand_over.Goals as goal

pub split_seat-note-requires : goal.split_seat-note-requires
split_seat-note-requires c = (search rules, search rules, gives_receipt_as _ _ _ _ _ _ _ (ap (λ m. m.0) c.find.ensures.found.0))

pub join_seat-requires : goal.join_seat-requires
join_seat-requires c =
    let w = note_is _ _ _ _ _ _ (ap (λ m. m.0) c.find.ensures.found.0) (ap (λ m. m.0) c.split_seat-note.ensures.4) in
    (search rules, search rules, search rules, search rules, informs_as _ _ _ _ _ _ _ _ _ _ _ _ (ap (λ m. m.0) c.requires.pass) w)

pub returns-clause-pass : goal.returns-clause-pass
returns-clause-pass c =
    let w = note_is _ _ _ _ _ _ (ap (λ m. m.0) c.find.ensures.found.0) (ap (λ m. m.0) c.split_seat-note.ensures.4) in (
      (search rules, search rules),
      told_all _ _ _ _ _ _ _ _ _ (ap (λ m. m.0) c.requires.pass) w c.requires.begins (c.join_seat.ensures.2 ∙ ap (λ l. (informed c.args.pass.now.me.0 c.split_seat-note.result.me.0, l)) (ap (λ m. m.1) c.requires.pass)),
    )
