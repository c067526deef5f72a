use Rattle.std.proofs.Common.{◌∙◌, ap, sym, Some}
use Rattle.world.specs.declared.jobs.Flight.TheVariants.{Made}
use Rattle.world.specs.Flights.{serial_of}
use Rattle.world.proofs.CallReplies.{taken_apart, put_again, put_otherwise, none_taken, call_made, call_keeps}
use Rattle.world.proofs.CallReplies.{call_again, call_none, same_table}
use Rattle.world.proofs.world.World.call.Goals as goal

pub put-requires-clause-apart : goal.put-requires-clause-apart
put-requires-clause-apart g c = taken_apart c.self.inside.jobs c.take.new.self c.args.serial.0 _ c.take.ensures.rest
    (c.perform-finished.ensures.performs.serial ∙ ap serial_of (sym c.in-Some-Asked.field-0-is) ∙ c.in-Some-Asked.ensures.serial)

pub invariant_of-self : goal.invariant_of-self
invariant_of-self g c = (
  call_keeps c.self.inside.core.state c.self.inside.jobs _ c.self.invariant.0 c.args.serial.0 _ c.self.view_is
      c.in-Some-Asked.job (ap Some (sym c.in-Some-Asked.field-0-is) ∙ c.in-Some-Asked.ensures.job)
      c.perform-finished.result _ c.perform-finished.ensures c.put.new.self
      (put_otherwise c.self.inside.jobs c.take.new.self c.put.new.self c.args.serial.0 _
      (Made c.perform-finished.result) c.take.ensures.rest c.put.ensures
      (c.perform-finished.ensures.performs.serial ∙ ap serial_of (sym c.in-Some-Asked.field-0-is)
      ∙ c.in-Some-Asked.ensures.serial)),
  c.self.invariant.1,
)

pub returns-in-Some-Asked : goal.returns-in-Some-Asked
returns-in-Some-Asked g c =
    call_made c.self.inside.core.state c.self.inside.jobs _ c.self.invariant.0 c.args.serial.0 _ c.self.view_is
    c.in-Some-Asked.job (ap Some (sym c.in-Some-Asked.field-0-is) ∙ c.in-Some-Asked.ensures.job)
    c.perform-finished.result _ c.perform-finished.ensures c.put.new.self
    (put_otherwise c.self.inside.jobs c.take.new.self c.put.new.self c.args.serial.0 _ (Made c.perform-finished.result)
    c.take.ensures.rest c.put.ensures
    (c.perform-finished.ensures.performs.serial ∙ ap serial_of (sym c.in-Some-Asked.field-0-is)
    ∙ c.in-Some-Asked.ensures.serial))

pub put-requires-in-Some-Made-clause-apart : goal.put-requires-in-Some-Made-clause-apart
put-requires-in-Some-Made-clause-apart g c = taken_apart c.self.inside.jobs c.take.new.self c.args.serial.0 _
    c.take.ensures.rest (ap serial_of (sym c.in-Some-Made.field-0-is) ∙ c.in-Some-Made.ensures.serial)

pub invariant_of-self-in-Some-Made : goal.invariant_of-self-in-Some-Made
invariant_of-self-in-Some-Made g c = (
  same_table c.self.inside.core.state c.self.inside.jobs _ c.self.invariant.0 c.put-in-Some-Made.new.self
      (put_again c.self.inside.jobs c.take.new.self c.put-in-Some-Made.new.self c.args.serial.0 _
      (Made c.in-Some-Made.finished) c.take.ensures.rest c.put-in-Some-Made.ensures
      (ap serial_of (sym c.in-Some-Made.field-0-is) ∙ c.in-Some-Made.ensures.serial)
      (ap Some (sym c.in-Some-Made.field-0-is) ∙ c.in-Some-Made.ensures.job)),
  c.self.invariant.1,
)

pub invariant_of-self-in-None : goal.invariant_of-self-in-None
invariant_of-self-in-None g c = (
  same_table c.self.inside.core.state c.self.inside.jobs _ c.self.invariant.0 c.take.new.self
      (none_taken c.self.inside.jobs c.take.new.self c.args.serial.0 c.take.ensures.rest c.in-None.ensures.job),
  c.self.invariant.1,
)

pub returns-in-Some-Made : goal.returns-in-Some-Made
returns-in-Some-Made g c =
    call_again c.self.inside.core.state c.self.inside.jobs _ c.self.invariant.0 c.args.serial.0 _ c.self.view_is
    c.in-Some-Made.finished (ap Some (sym c.in-Some-Made.field-0-is) ∙ c.in-Some-Made.ensures.job)
    c.put-in-Some-Made.new.self
    (put_again c.self.inside.jobs c.take.new.self c.put-in-Some-Made.new.self c.args.serial.0 _
    (Made c.in-Some-Made.finished) c.take.ensures.rest c.put-in-Some-Made.ensures
    (ap serial_of (sym c.in-Some-Made.field-0-is) ∙ c.in-Some-Made.ensures.serial)
    (ap Some (sym c.in-Some-Made.field-0-is) ∙ c.in-Some-Made.ensures.job))

pub returns-in-None : goal.returns-in-None
returns-in-None g c = call_none c.self.inside.core.state c.self.inside.jobs _ c.self.invariant.0 c.args.serial.0 _
    c.self.view_is c.in-None.ensures.job c.take.new.self
    (none_taken c.self.inside.jobs c.take.new.self c.args.serial.0 c.take.ensures.rest c.in-None.ensures.job)
