use Rattle.textline.specs.Prints.{ended}
use Rattle.textline.proofs.PrintLemmas.{failed_part, part_before}
use Rattle.storm_text.specs.Told.{lines_left, replay_text}
use Rattle.storm_text.proofs.Parts.{on_err, then_part}
use Rattle.storm_text.proofs.told.print_findings.Goals as goal

pub returns-in_err-print_replay-clause-begun : goal.returns-in_err-print_replay-clause-begun
returns-in_err-print_replay-clause-begun g c =
    on_err _ _ (part_before _ _ (ended (replay_text c.args.findings.now.replays)) (lines_left c.args.findings.now)
    (failed_part _ _ _ _ c.in_err-print_replay.ensures))

pub returns-clause-begun : goal.returns-clause-begun
returns-clause-begun g c =
    then_part c.print_rest.result _ _ _ (ended (replay_text c.args.findings.now.replays)) (lines_left c.args.findings.now)
    c.in_ok-print_replay.ensures c.print_rest.ensures.begun
