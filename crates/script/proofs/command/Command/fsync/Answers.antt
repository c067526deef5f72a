use Rattle.script.specs.declared.keyword.Keyword.TheVariants.{Fsync}
use Rattle.script.proofs.CommandLemmas.{asks, no_number}
use Rattle.script.proofs.command.Command.fsync.Goals as goal

pub returns-in_err-number-clause-malformed : goal.returns-in_err-number-clause-malformed
returns-in_err-number-clause-malformed c = λ e other a.
    let f = asks Fsync _ other a in
    no_number c.in_err-number.ensures.none f.2
