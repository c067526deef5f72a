use Rattle.std.proofs.Common.{subst, sym}
use Rattle.script.specs.Sessions.{Concludes}
use Rattle.script.proofs.SyncLaws.{concludes_dropped}
use Rattle.script.proofs.session.Session.finish.Goals as goal

pub returns-in-Clean : goal.returns-in-Clean
returns-in-Clean c =
    let w = c.write_back.ensures.written in
    (w.0, w.1, c.write_back.new.self, c.write_back.result, w.2, w.3, subst (λ r. Concludes c.write_back.new.self c.args.handle c.args.sync r c.conclude.result c.conclude.new.self) (sym c.in-Clean.is) c.conclude.ensures)

pub returns-in-Failed : goal.returns-in-Failed
returns-in-Failed c =
    let w = c.write_back.ensures.written in
    (w.0, w.1, c.write_back.new.self, c.write_back.result, w.2, w.3, subst (λ r. Concludes c.write_back.new.self c.args.handle c.args.sync r c.conclude-in-Failed.result c.conclude-in-Failed.new.self) (sym c.in-Failed.is) c.conclude-in-Failed.ensures)

pub returns-in_default : goal.returns-in_default
returns-in_default c =
    let w = c.write_back.ensures.written in
    (w.0, w.1, c.write_back.new.self, c.write_back.result, w.2, w.3, concludes_dropped c.write_back.new.self c.step.new.self c.args.handle c.args.sync c.write_back.result c.step.result c.write_back.ensures.over c.in_default.not-Clean c.in_default.not-Failed c.step.ensures)
