use Rattle.std.proofs.Common.{subst}
use Rattle.world.specs.declared.step.Step.TheVariants as step
use Rattle.script.specs.Sessions.{Makes}
use Rattle.script.proofs.SessionLemmas.{new_pass, open_makes, open_session, seen}
use Rattle.script.proofs.session.Session.open.Goals as goal

pub invariant_of-self-in-Handle : goal.invariant_of-self-in-Handle
invariant_of-self-in-Handle c =
    let i = c.self.inside in
    let p = new_pass i.board i.recorder c.args.file.0 _ c.in-Ok.pass c.self.invariant.same_board c.in-Ok.ensures.pass c.in-Ok.ensures.sampled in
    open_session i.world c.step-reply.new.self i.board i.recorder c.pass.new.self i.passes c.put.new.self c.self.invariant c.args.file c.in-Handle.handle c.step-reply.result c.in-Ok.pass c.in-Handle.is c.pass.ensures.same c.put.ensures c.step-reply.ensures p

pub returns-in-Handle : goal.returns-in-Handle
returns-in-Handle c =
    let i = c.self.inside in
    let p = new_pass i.board i.recorder c.args.file.0 _ c.in-Ok.pass c.self.invariant.same_board c.in-Ok.ensures.pass c.in-Ok.ensures.sampled in
    subst (λ old. Makes old (step.Open c.args.file) c.step-reply.result (seen c.step-reply.new.self c.pass.new.self c.put.new.self)) c.self.view_is
    (open_makes i.world c.step-reply.new.self i.board i.recorder c.pass.new.self i.passes c.put.new.self c.self.invariant c.args.file c.in-Handle.handle c.step-reply.result c.in-Ok.pass c.in-Handle.is c.pass.ensures.same c.put.ensures c.step-reply.ensures p)
