use Rattle.std.proofs.Common.{refl, ◌∙◌}
use Rattle.world.specs.declared.step.Step.TheVariants.{SyncStep}
use Rattle.script.proofs.HandleLaws.{left_by}
use Rattle.script.proofs.SyncLaws.{fewer_left, go_on_writing, is_write}
use Rattle.script.proofs.session.Session.write_back.Goals as goal

pub returns-in_default : goal.returns-in_default
returns-in_default c =
    let i = c.writes.invariant in
    record {
      written = (i.serials, c.writes.self, i.writes, c.step.ensures);
      over = c.in_default.not-Job;
      handles = (left_by c.writes.self.world c.step.new.self.world (SyncStep c.args.sync) c.step.result c.step.ensures.0).handles refl ∙ i.handles;
    }

pub writes-smaller : goal.writes-smaller
writes-smaller c =
    let w = is_write c.writes.self c.step.new.self c.step-in-Job.new.self c.step-in-Job-2.new.self c.args.sync c.in-Job.serial c.step.result c.step-in-Job.result c.step-in-Job-2.result c.in-Job.is c.step.ensures c.step-in-Job.ensures c.step-in-Job-2.ensures in
    fewer_left c.writes.self c.step-in-Job-2.new.self c.args.sync c.in-Job.serial w

pub writes-preserved : goal.writes-preserved
writes-preserved c =
    let w = is_write c.writes.self c.step.new.self c.step-in-Job.new.self c.step-in-Job-2.new.self c.args.sync c.in-Job.serial c.step.result c.step-in-Job.result c.step-in-Job-2.result c.in-Job.is c.step.ensures c.step-in-Job.ensures c.step-in-Job-2.ensures in
    go_on_writing c.args.self.now c.writes.self c.step-in-Job-2.new.self c.args.sync c.in-Job.serial c.writes.invariant w
