use Rattle.std.proofs.Common.{refl, subst}
use Rattle.world.specs.declared.step.Step.TheVariants as step
use Rattle.script.specs.Sessions.{Makes}
use Rattle.script.proofs.SessionLemmas.{close_makes, close_session, seen, unclosed_session}
use Rattle.script.proofs.session.Session.close.Goals as goal

pub invariant_of-self : goal.invariant_of-self
invariant_of-self c =
    let i = c.self.inside in
    close_session i.world c.step-reply.new.self i.board i.recorder c.retire.new.self i.passes c.take.new.self c.self.invariant c.retire.ensures.same c.args.handle c.step-reply.result c.in-Closed.is c.take.ensures.rest c.step-reply.ensures

pub invariant_of-self-in_default : goal.invariant_of-self-in_default
invariant_of-self-in_default c =
    let i = c.self.inside in
    unclosed_session i.world c.step-reply.new.self i.board i.recorder i.recorder i.passes c.self.invariant refl c.step-reply.result c.args.handle c.in_default.not-Closed c.step-reply.ensures

pub returns-in-Some : goal.returns-in-Some
returns-in-Some c =
    let i = c.self.inside in
    subst (λ old. Makes old (step.Close c.args.handle) c.step-reply.result (seen c.step-reply.new.self c.retire.new.self c.take.new.self)) c.self.view_is
    (close_makes i.world c.step-reply.new.self i.board i.recorder c.retire.new.self i.passes c.take.new.self c.self.invariant c.retire.ensures.same c.args.handle c.step-reply.result c.in-Closed.is c.take.ensures.rest c.step-reply.ensures)
