use Rattle.std.proofs.Common.{rules}
use Rattle.script.specs.declared.keyword.Keyword.TheVariants.{Append}
use Rattle.script.proofs.CommandLemmas.{asks, after_number, no_number, no_bytes}
use Rattle.script.proofs.command.Command.append.Goals as goal

pub returns-in_err-number-clause-malformed : goal.returns-in_err-number-clause-malformed
returns-in_err-number-clause-malformed c = λ e other a.
    let f = asks Append _ other a in
    no_number c.in_err-number.ensures.none f.2

pub returns-in_err-bytes-clause-malformed : goal.returns-in_err-bytes-clause-malformed
returns-in_err-bytes-clause-malformed c = λ e other a.
    let f = asks Append _ other a in
    no_bytes (c.in_err-bytes.ensures.malformed (search rules)) (after_number c.in_ok-number.ensures.ok f.2)
