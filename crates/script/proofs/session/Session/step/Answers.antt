use Rattle.script.proofs.SessionLemmas.{other_step, steps_on}
use Rattle.script.proofs.session.Session.step.Goals as goal

pub invariant_of-self : goal.invariant_of-self
invariant_of-self c =
    let i = c.self.inside in
    steps_on i.world i.board i.recorder i.passes c.self.invariant c.step.new.self c.args.step.now c.step.result (other_step c.args.step.now c.in_default.not-Open c.in_default.not-Close) c.step.ensures
