use Rattle.script.specs.declared.keyword.Keyword.TheVariants.{Config}
use Rattle.script.proofs.CommandLemmas.{asks, after_number, no_number}
use Rattle.script.proofs.command.Command.config.Goals as goal

pub returns-in_err-page-clause-malformed : goal.returns-in_err-page-clause-malformed
returns-in_err-page-clause-malformed c = λ e other a.
    let f = asks Config _ other a in
    no_number c.in_err-page.ensures.none f.4

pub returns-in_err-frames-clause-malformed : goal.returns-in_err-frames-clause-malformed
returns-in_err-frames-clause-malformed c = λ e other a.
    let f = asks Config _ other a in
    no_number c.in_err-frames.ensures.none (after_number c.in_ok-page.ensures.ok f.4)

pub returns-in_err-dirty_limit-clause-malformed : goal.returns-in_err-dirty_limit-clause-malformed
returns-in_err-dirty_limit-clause-malformed c = λ e other a.
    let f = asks Config _ other a in
    no_number c.in_err-dirty_limit.ensures.none (after_number c.in_ok-frames.ensures.ok (after_number c.in_ok-page.ensures.ok f.4))

pub returns-in_err-blocks-clause-malformed : goal.returns-in_err-blocks-clause-malformed
returns-in_err-blocks-clause-malformed c = λ e other a.
    let f = asks Config _ other a in
    no_number c.in_err-blocks.ensures.none (after_number c.in_ok-dirty_limit.ensures.ok (after_number c.in_ok-frames.ensures.ok (after_number c.in_ok-page.ensures.ok f.4)))
