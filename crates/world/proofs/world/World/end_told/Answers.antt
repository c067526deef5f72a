use Rattle.std.proofs.Common.{◌∙◌, ap, subst, sym, Some}
use Rattle.std.specs.Prelude.{Ok, option_and_then}
use Rattle.world.specs.Answers.{NamesFlush, end_says}
use Rattle.world.specs.Ends.{end_as}
use Rattle.world.specs.Stepping.{WorldSeen}
use Rattle.world.specs.declared.jobs.Flight.TheVariants.{Asked}
use Rattle.world.specs.declared.step.Step.TheVariants as step
use Rattle.world.specs.Flights.{outcome_in, serial_of}
use Rattle.world.proofs.CallReplies.{taken_apart, put_again, none_taken, same_table, end_keeps, end_made, end_never}
use Rattle.world.proofs.CallReplies.{came_to, end_refused}
use Rattle.world.proofs.Spares.{end_back, same_buffer, same_page, with_spare}
use Rattle.world.proofs.EndNames.{end_as_says, names_flush}
use Rattle.world.proofs.world.World.end_told.Goals as goal

pub invariant_of-self : goal.invariant_of-self
invariant_of-self g c =
    with_spare c.self.inside.spare c.self.invariant
    (end_keeps c.self.inside.core.state c.self.inside.jobs _ c.self.invariant.0 c.args.serial.0 c.in-Some-Made.finished
    (ap Some (sym c.in-Some-Made.field-0-is) ∙ c.in-Some-Made.ensures.job) c.kind-kind.result c.kind-kind.ensures
    c.hand_in.new.core.state _ c.in-Ok.ensures.step c.take.new.self c.take.ensures.rest)

pub returns-in-Ok-clause-ended : goal.returns-in-Ok-clause-ended
returns-in-Ok-clause-ended g c =
    rw (ap end_says c.of_end-answer.ensures.answer ∙ end_as_says c.kind-kind.result c.in-Ok.end)
    (end_made c.self.inside.core.state c.self.inside.jobs _ c.self.invariant.0 c.args.serial.0 c.in-Some-Made.finished
    (ap Some (sym c.in-Some-Made.field-0-is) ∙ c.in-Some-Made.ensures.job) c.kind-kind.result c.kind-kind.ensures
    c.args.self.now c.self.view_is c.hand_in.new.core.state _ c.in-Ok.ensures.step c.take.new.self
    c.take.ensures.rest)

pub returns-in-Ok-clause-told : goal.returns-in-Ok-clause-told
returns-in-Ok-clause-told g c =
    came_to c.self.inside.core.state c.self.inside.jobs _ c.self.invariant.0 c.args.serial.0 c.in-Some-Made.finished
    (ap Some (sym c.in-Some-Made.field-0-is) ∙ c.in-Some-Made.ensures.job) c.kind-kind.result c.kind-kind.ensures
    c.args.self.now c.self.view_is c.block-block.result.0 c.block-block.ensures c.outcome-outcome.result c.outcome-outcome.ensures c.of_end-answer.result.1
    (same_buffer c.in-Some-Made.finished c.in-Ok.end c.of_end-answer.result.1 c.in-Ok.ensures.back
    c.of_end-answer.ensures.buffer)

pub returns-in-Ok-clause-file : goal.returns-in-Ok-clause-file
returns-in-Ok-clause-file g c =
    let serial = ap serial_of (sym c.in-Some-Made.field-0-is) ∙ c.in-Some-Made.ensures.serial in
    rw c.of_end-answer.ensures.answer
    (subst (λ (w : WorldSeen). NamesFlush w.core c.args.serial.0 (Ok (end_as c.kind-kind.result c.in-Ok.end))) c.self.view_is
    (subst (λ t. NamesFlush c.self.inside.core.state t (Ok (end_as c.kind-kind.result c.in-Ok.end))) serial
    (names_flush c.self.inside.core.state c.kind-kind.result c.in-Some-Made.finished.serial c.in-Ok.end c.in-Ok.ensures.file)))

pub returns-in-Ok-clause-size : goal.returns-in-Ok-clause-size
returns-in-Ok-clause-size g c =
    end_back c.self.invariant.0 c.args.serial.0 c.in-Some-Made.finished
    (ap Some (sym c.in-Some-Made.field-0-is) ∙ c.in-Some-Made.ensures.job) c.in-Ok.end c.of_end-answer.result.1
    c.in-Ok.ensures.back c.of_end-answer.ensures.buffer
    ∙ same_page c.self.invariant.0
    (end_keeps c.self.inside.core.state c.self.inside.jobs _ c.self.invariant.0 c.args.serial.0 c.in-Some-Made.finished
    (ap Some (sym c.in-Some-Made.field-0-is) ∙ c.in-Some-Made.ensures.job) c.kind-kind.result c.kind-kind.ensures
    c.hand_in.new.core.state _ c.in-Ok.ensures.step c.take.new.self c.take.ensures.rest)

pub invariant_of-self-in-Err : goal.invariant_of-self-in-Err
invariant_of-self-in-Err g c =
    absurd (end_never c.self.inside.core.state c.self.inside.jobs _ c.self.invariant.0 c.args.serial.0
    c.in-Some-Made.finished (ap Some (sym c.in-Some-Made.field-0-is) ∙ c.in-Some-Made.ensures.job)
    c.kind-kind.result c.kind-kind.ensures c.hand_in.new.core.state c.in-Err.refused c.in-Err.ensures.step)

pub put-requires-in-Some-Asked-clause-apart : goal.put-requires-in-Some-Asked-clause-apart
put-requires-in-Some-Asked-clause-apart g c = taken_apart c.self.inside.jobs c.take.new.self c.args.serial.0 _
    c.take.ensures.rest (ap serial_of (sym c.in-Some-Asked.field-0-is) ∙ c.in-Some-Asked.ensures.serial)

pub invariant_of-self-in-Some-Asked : goal.invariant_of-self-in-Some-Asked
invariant_of-self-in-Some-Asked g c = (
  same_table c.self.inside.core.state c.self.inside.jobs _ c.self.invariant.0 c.put-in-Some-Asked.new.self
      (put_again c.self.inside.jobs c.take.new.self c.put-in-Some-Asked.new.self c.args.serial.0 _
      (Asked c.in-Some-Asked.job) c.take.ensures.rest c.put-in-Some-Asked.ensures
      (ap serial_of (sym c.in-Some-Asked.field-0-is) ∙ c.in-Some-Asked.ensures.serial)
      (ap Some (sym c.in-Some-Asked.field-0-is) ∙ c.in-Some-Asked.ensures.job)),
  c.self.invariant.1,
)

pub returns-in-Some-Asked-clause-ended : goal.returns-in-Some-Asked-clause-ended
returns-in-Some-Asked-clause-ended g c =
    end_refused c.self.inside.core.state c.self.inside.jobs _ c.self.invariant.0 c.args.serial.0 _ c.self.view_is
    (step.End c.args.serial) (ap (option_and_then outcome_in)
    (sym (ap Some (sym c.in-Some-Asked.field-0-is) ∙ c.in-Some-Asked.ensures.job))) c.put-in-Some-Asked.new.self
    (put_again c.self.inside.jobs c.take.new.self c.put-in-Some-Asked.new.self c.args.serial.0 _
    (Asked c.in-Some-Asked.job) c.take.ensures.rest c.put-in-Some-Asked.ensures
    (ap serial_of (sym c.in-Some-Asked.field-0-is) ∙ c.in-Some-Asked.ensures.serial)
    (ap Some (sym c.in-Some-Asked.field-0-is) ∙ c.in-Some-Asked.ensures.job))

pub invariant_of-self-in-None : goal.invariant_of-self-in-None
invariant_of-self-in-None g c = (
  same_table c.self.inside.core.state c.self.inside.jobs _ c.self.invariant.0 c.take.new.self
      (none_taken c.self.inside.jobs c.take.new.self c.args.serial.0 c.take.ensures.rest c.in-None.ensures.job),
  c.self.invariant.1,
)

pub returns-in-None-clause-ended : goal.returns-in-None-clause-ended
returns-in-None-clause-ended g c =
    end_refused c.self.inside.core.state c.self.inside.jobs _ c.self.invariant.0 c.args.serial.0 _ c.self.view_is
    (step.End c.args.serial) (ap (option_and_then outcome_in) (sym c.in-None.ensures.job)) c.take.new.self
    (none_taken c.self.inside.jobs c.take.new.self c.args.serial.0 c.take.ensures.rest c.in-None.ensures.job)
