use Rattle.std.proofs.Common.{sym, ap, ◌∙◌}
use Rattle.std.specs.FinMap as map
use Rattle.blockmap.proofs.TableLemmas.{len-held}
use Rattle.blockmap.proofs.held.HeldBlocks.len.Goals as goal

pub returns : goal.returns
returns c = c.len.ensures.value ∙ sym (len-held c.self.inside.table.items c.self.invariant.distinct) ∙ ap map.len c.self.view_is
