use Rattle.textline.specs.Prints.{ended}
use Rattle.textline.proofs.PrintLemmas.{failed_part, part_before}
use Rattle.storm_text.specs.Told.{device_text, refused_text}
use Rattle.storm_text.proofs.Parts.{on_err, then_line}
use Rattle.storm_text.proofs.told.print_rest.Goals as goal

pub returns-in_err-print_refused-clause-begun : goal.returns-in_err-print_refused-clause-begun
returns-in_err-print_refused-clause-begun g c =
    on_err _ _ (part_before _ _ (ended (refused_text c.args.findings.now.refused.times))
    (ended (device_text c.args.findings.now.device)) (failed_part _ _ _ _ c.in_err-print_refused.ensures))

pub returns-clause-begun : goal.returns-clause-begun
returns-clause-begun g c =
    then_line c.print_device.result _ _ _ (ended (refused_text c.args.findings.now.refused.times))
    (ended (device_text c.args.findings.now.device)) c.in_ok-print_refused.ensures c.print_device.ensures
