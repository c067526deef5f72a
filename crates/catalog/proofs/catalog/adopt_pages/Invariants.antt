use Rattle.catalog.specs.Rows.{Adopts}
use Rattle.catalog.proofs.catalog.adopt_pages.Given as goal

abbrev pub invariant-loop-number : goal.invariant-loop-number
invariant-loop-number l = Adopts l.page l.fn.blocks l.blocks l.file.0 l.extent l.number
