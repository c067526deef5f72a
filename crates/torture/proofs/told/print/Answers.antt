use Rattle.textline.proofs.PrintLemmas.{failed_part, part_kept, whole_part}
use Rattle.torture.proofs.Prints.{on_err}
use Rattle.torture.proofs.told.print.Goals as goal

pub returns-clause-begun : goal.returns-clause-begun
returns-clause-begun g c =
    on_err _ _ (part_kept _ _ _ _ (whole_part _ _ _ c.in_ok-print_line.ensures.printed) c.flush.ensures.kept)
