use Rattle.std.proofs.Common.{sym, ap, subst}
use Rattle.blockmap.specs.Table.{IsTable, held_of}
use Rattle.blockmap.proofs.TableLemmas.{table-empty}
use Rattle.blockmap.proofs.held.HeldBlocks.new.Goals as goal

pub invariant_of-result : goal.invariant_of-result
invariant_of-result c = subst IsTable (sym c.new.ensures) table-empty

pub returns : goal.returns
returns c = ap held_of c.new.ensures
