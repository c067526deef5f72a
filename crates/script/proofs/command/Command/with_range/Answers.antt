use Rattle.std.proofs.Common.{sym, ◌∙◌}
use Rattle.script.proofs.CommandLemmas.{err_ok_or, if_ok_or, no_more, on_err, ranged_alone, ranged_asks}
use Rattle.script.proofs.command.Command.with_range.Goals as goal

pub returns-in_err-range-clause-none : goal.returns-in_err-range-clause-none
returns-in_err-range-clause-none c = on_err c.from_residual.result (λ k more begins some d.
    no_more k more c.args.words.now c.args.self.now d begins some c.in_err-range.ensures.none)

pub returns-clause-ok : goal.returns-clause-ok
returns-clause-ok c = if_ok_or c.ok_or.result c.ranged.result _ _ c.ok_or.ensures.value (λ d is all begins.
    ranged_asks all c.args.words.now c.args.self.now d c.in_ok-range.range (sym c.ranged.ensures ∙ is) begins
    c.in_ok-range.ensures.ok)

pub returns-clause-none : goal.returns-clause-none
returns-clause-none c = err_ok_or c.ok_or.result c.ranged.result _ _ c.ok_or.ensures.value (λ is k more begins some d.
    ranged_alone k more c.args.words.now c.args.self.now d c.in_ok-range.range (sym c.ranged.ensures ∙ is) begins some)
