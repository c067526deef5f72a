use Rattle.std.proofs.Common.{sym, ap, ◌∙◌, arith, drop_of_length-le}
use Rattle.blockmap.proofs.TableLemmas.{find_here, find_in, get-held}
use Rattle.blockmap.proofs.table.cut_of.Goals as goal

pub returns-then-held-block : goal.returns-then-held-block
returns-then-held-block c = sym (get-held c.args.table.now c.args.block ∙ sym c.loop-held.invariant ∙ find_here c.args.table.now c.loop-held.held-index c.args.block _ (omega arith) c.if-held-block.true)

pub returns : goal.returns
returns c = sym (get-held c.args.table.now c.args.block ∙ sym c.loop-held.invariant ∙ ap (find_in c.args.block) (drop_of_length-le c.args.table.now (omega arith)))
