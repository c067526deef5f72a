use Rattle.std.proofs.Common.{ap, ◌∙◌, List}
use Rattle.std.specs.FinMap as map
use Rattle.blockmap.specs.declared.held.Held.{Held}
use Rattle.blockmap.specs.Table.{held_of}
use Rattle.blockmap.proofs.BlockLemmas.{Held as ByBlock}
use Rattle.blockmap.proofs.held.HeldBlocks.get.Goals as goal

pub returns : goal.returns
returns c = c.cut_of.ensures ∙ ap (λ (t : List Held). map.get (held_of t) c.args.block) c.deref.ensures.0 ∙ ap (λ (m : ByBlock). map.get m c.args.block) c.self.view_is
