use Rattle.script.specs.declared.keyword.Keyword.TheVariants.{Tags}
use Rattle.script.proofs.CommandLemmas.{asks, after_number, no_number}
use Rattle.script.proofs.command.Command.tags.Goals as goal

pub returns-in_err-number-clause-malformed : goal.returns-in_err-number-clause-malformed
returns-in_err-number-clause-malformed c = λ e other a.
    let f = asks Tags _ other a in
    no_number c.in_err-number.ensures.none f.2

pub returns-in_err-number-2-clause-malformed : goal.returns-in_err-number-2-clause-malformed
returns-in_err-number-2-clause-malformed c = λ e other a.
    let f = asks Tags _ other a in
    no_number c.in_err-number-2.ensures.none (after_number c.in_ok-number.ensures.ok f.2)
