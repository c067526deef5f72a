use Rattle.std.proofs.Common.{refl}
use Rattle.script.proofs.SessionLemmas.{end_session}
use Rattle.script.proofs.session.Session.end.Goals as goal

pub invariant_of-self-in_default : goal.invariant_of-self-in_default
invariant_of-self-in_default c =
    let i = c.self.inside in
    end_session i.world c.end-answer.new.self i.board i.recorder i.recorder i.passes c.self.invariant c.args.serial _ c.end-answer.ensures.ended refl

pub invariant_of-self-in_default-2 : goal.invariant_of-self-in_default-2
invariant_of-self-in_default-2 c =
    let i = c.self.inside in
    end_session i.world c.end-answer.new.self i.board i.recorder i.recorder i.passes c.self.invariant c.args.serial _ c.end-answer.ensures.ended refl
