use Rattle.textline.specs.Prints.{ended}
use Rattle.textline.proofs.PrintLemmas.{failed_part, part_after, part_before, part_kept, whole_part}
use Rattle.std.proofs.KnownBytes.{Appends-trans}
use Rattle.storm_text.specs.Told.{calls_text, lines_found}
use Rattle.storm_text.proofs.Parts.{on_err}
use Rattle.storm_text.proofs.told.print_lines.Goals as goal

pub returns-in_err-print_line-clause-begun : goal.returns-in_err-print_line-clause-begun
returns-in_err-print_line-clause-begun g c =
    on_err _ _ (part_before _ _ (ended (calls_text c.args.calls)) (lines_found c.args.findings.now)
    (failed_part _ _ _ _ c.in_err-print_line.ensures.printed))

pub returns-in_err-print_findings-clause-begun : goal.returns-in_err-print_findings-clause-begun
returns-in_err-print_findings-clause-begun g c =
    on_err _ _ (part_after _ _ _ (ended (calls_text c.args.calls)) (lines_found c.args.findings.now)
    c.in_ok-print_line.ensures.printed c.in_err-print_findings.ensures.begun)

pub returns-clause-begun : goal.returns-clause-begun
returns-clause-begun g c =
    on_err _ _ (part_kept _ _ _ _ (whole_part _ _ _ (Appends-trans _ _ _ (ended (calls_text c.args.calls))
    (lines_found c.args.findings.now) c.in_ok-print_line.ensures.printed c.in_ok-print_findings.ensures.printed))
    c.flush.ensures.kept)
