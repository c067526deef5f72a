use Rattle.std.proofs.Common.{arith}
use Rattle.script.specs.declared.keyword.Keyword.TheVariants.{Read}
use Rattle.script.proofs.CommandLemmas.{asks, after_number, same_number, no_number}
use Rattle.script.proofs.command.Command.read.Goals as goal

pub returns-in_err-number-clause-malformed : goal.returns-in_err-number-clause-malformed
returns-in_err-number-clause-malformed c = λ e other a.
    let f = asks Read _ other a in
    no_number c.in_err-number.ensures.none f.3

pub returns-in_err-offset-clause-malformed : goal.returns-in_err-offset-clause-malformed
returns-in_err-offset-clause-malformed c = λ e other a.
    let f = asks Read _ other a in
    no_number c.in_err-offset.ensures.none (after_number c.in_ok-number.ensures.ok f.3)

pub returns-in_err-count-clause-malformed : goal.returns-in_err-count-clause-malformed
returns-in_err-count-clause-malformed c = λ e other a.
    let f = asks Read _ other a in
    no_number c.in_err-count.ensures.none (after_number c.in_ok-offset.ensures.ok (after_number c.in_ok-number.ensures.ok f.3))

pub returns-then-count-gt-MAX_READ-clause-malformed : goal.returns-then-count-gt-MAX_READ-clause-malformed
returns-then-count-gt-MAX_READ-clause-malformed c = λ e other a.
    let f = asks Read _ other a in
    let same = same_number c.in_ok-count.ensures.ok (after_number c.in_ok-offset.ensures.ok (after_number c.in_ok-number.ensures.ok f.3)) in
    absurd (omega (arith, f.4, same))
