use Rattle.std.proofs.Common.{◌≡◌, ap, ◌∙◌}
use mathlib.Core.List.{IsPrefix}
use Rattle.errboard.specs.Shown.{RecorderSeen}
use Rattle.errboard.specs.Views.{recorded_of}
use Rattle.errboard.proofs.Polling.{silent}
use Rattle.errboard.proofs.recorder.Recorder.poll.Goals as goal

pub returns-else-is_some-clause-none : goal.returns-else-is_some-clause-none
returns-else-is_some-clause-none c =
    let file : c.poll-code.new.pass.file ≡ c.args.pass.now.file = c.poll-code.ensures.same.1 ∙ c.level.ensures.pass.1 in
    let begins : IsPrefix c.poll-code.new.pass.known (recorded_of c.args.self.now.all c.args.pass.now.file) =
    rw (← file, ← ap (λ (r : RecorderSeen). r.all) c.level.ensures.same) c.level-2.ensures.begins in
    silent c.poll-code.result c.level.new.pass.known c.poll-code.new.pass.known _ c.args.pass.now.done c.level.new.pass.done c.level.ensures.known c.poll-code.ensures.grows begins c.level.ensures.pass.3 c.poll-code.ensures.none
