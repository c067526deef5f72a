use Rattle.std.proofs.Common.{arith}
use Rattle.script.specs.declared.keyword.Keyword.TheVariants.{Fail}
use Rattle.script.proofs.CommandLemmas.{asks, after_number, same_number, no_number, no_effect}
use Rattle.script.proofs.command.Command.fail.Goals as goal

pub returns-in_err-number-clause-malformed : goal.returns-in_err-number-clause-malformed
returns-in_err-number-clause-malformed c = λ e other a.
    let f = asks Fail _ other a in
    no_number c.in_err-number.ensures.none f.3

pub returns-in_err-code-clause-malformed : goal.returns-in_err-code-clause-malformed
returns-in_err-code-clause-malformed c = λ e other a.
    let f = asks Fail _ other a in
    no_number c.in_err-code.ensures.none (after_number c.in_ok-number.ensures.ok f.3)

pub returns-then-code-gt-MAX_CODE-clause-malformed : goal.returns-then-code-gt-MAX_CODE-clause-malformed
returns-then-code-gt-MAX_CODE-clause-malformed c = λ e other a.
    let f = asks Fail _ other a in
    let same = same_number c.in_ok-code.ensures.ok (after_number c.in_ok-number.ensures.ok f.3) in
    absurd (omega (arith, f.4, same))

pub returns-in_err-effect-clause-malformed : goal.returns-in_err-effect-clause-malformed
returns-in_err-effect-clause-malformed c = λ e other a.
    let f = asks Fail _ other a in
    no_effect c.in_err-effect.ensures.none (after_number c.in_ok-code.ensures.ok (after_number c.in_ok-number.ensures.ok f.3))
