use Rattle.std.proofs.Common.{sym, ap, subst, ◌∙◌}
use Rattle.std.specs.FinMap as map
use Rattle.blockmap.specs.Table.{IsTable, held_of}
use Rattle.blockmap.proofs.BlockLemmas.{Held as ByBlock}
use Rattle.blockmap.proofs.TableLemmas.{held_without, table_without}
use Rattle.blockmap.proofs.held.HeldBlocks.remove.Goals as goal

pub invariant_of-self : goal.invariant_of-self
invariant_of-self c = subst IsTable (sym c.take_out.ensures) (table_without c.args.block c.self.inside.table.items c.self.invariant)

pub returns : goal.returns
returns c = ap held_of c.take_out.ensures ∙ held_without c.args.block c.self.inside.table.items ∙ ap (λ (m : ByBlock). map.remove m c.args.block) c.self.view_is
