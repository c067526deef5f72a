use Rattle.std.proofs.Common.{[], Some}
use Rattle.script.specs.Commands.{range_parts}
use Rattle.script.proofs.CommandLemmas.{Starts, after_number, no_number, on_err}
use Rattle.script.proofs.command.range.Goals as goal

pub returns-in_err-number-clause-none : goal.returns-in_err-number-clause-none
returns-in_err-number-clause-none c = on_err c.from_residual.result (λ r begins.
    let s : Starts c.args.words.now (range_parts (Some r)) [] = record { begins = begins } in
    no_number c.in_err-number.ensures.none s)

pub returns-in_err-number-2-clause-none : goal.returns-in_err-number-2-clause-none
returns-in_err-number-2-clause-none c = on_err c.from_residual-in_err-number-2.result (λ r begins.
    let s : Starts c.args.words.now (range_parts (Some r)) [] = record { begins = begins } in
    no_number c.in_err-number-2.ensures.none (after_number c.in_ok-number.ensures.ok s))
