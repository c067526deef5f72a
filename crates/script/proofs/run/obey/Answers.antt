use Rattle.std.proofs.Common.{Some, refl}
use Rattle.script.specs.declared.command.Command.TheVariants.{Step, Fail, Fsync, Poll, Tags}
use Rattle.script.proofs.CommandGiven.{answer_given, misplaced}
use Rattle.script.proofs.run.obey.Goals as goal

pub returns-in-Config : goal.returns-in-Config
returns-in-Config g c =
    rw c.in-Config.is (misplaced c.args.session.now c.args.number c.in-Config.field-0 c.in-Config.field-1 c.in-Config.field-2 c.in-Config.field-3 (Some c.args.session.now) (g.W.Write.contents c.args.out.now.writer))

pub returns-in-Step : goal.returns-in-Step
returns-in-Step g c =
    let (printed, made, writes) = c.make_step.ensures in
    rw c.in-Step.is
    (answer_given (Some c.args.session.now) c.args.number (Step c.in-Step.step) c.make_step.result c.make_step.new.session _ _ printed made writes)

pub returns-in-Fail : goal.returns-in-Fail
returns-in-Fail g c =
    let (printed, made, writes) = c.fail_call.ensures in
    rw c.in-Fail.is
    (answer_given (Some c.args.session.now) c.args.number (Fail c.in-Fail.serial c.in-Fail.code c.in-Fail.effect) c.fail_call.result c.fail_call.new.session _ _ printed made writes)

pub returns-in-Fsync : goal.returns-in-Fsync
returns-in-Fsync g c =
    let (printed, synced, writes) = c.sync_file.ensures in
    rw c.in-Fsync.is
    (answer_given (Some c.args.session.now) c.args.number (Fsync c.in-Fsync.handle c.in-Fsync.range) c.sync_file.result c.sync_file.new.session _ _ printed synced writes)

pub returns-in-Poll : goal.returns-in-Poll
returns-in-Poll g c =
    let (printed, polled, writes) = c.poll_handle.ensures in
    rw c.in-Poll.is
    (answer_given (Some c.args.session.now) c.args.number (Poll c.in-Poll.handle) c.poll_handle.result c.poll_handle.new.session _ _ printed polled writes)

pub returns-in-Tags : goal.returns-in-Tags
returns-in-Tags g c =
    let (printed, told, writes) = c.tell_tags.ensures in
    rw c.in-Tags.is
    (answer_given (Some c.args.session.now) c.args.number (Tags c.in-Tags.file c.in-Tags.page) c.tell_tags.result c.args.session.now _ _ printed (told, refl) writes)
