use Rattle.std.proofs.Common.{◌≡◌, drop}
use Rattle.blockmap.proofs.TableLemmas.{find_in}
use Rattle.blockmap.proofs.table.cut_of.Given as goal

-- what is left has what the table has
abbrev pub invariant-loop-held : goal.invariant-loop-held
invariant-loop-held l = find_in l.block (drop l.held-index l.table) ≡ find_in l.block l.table
