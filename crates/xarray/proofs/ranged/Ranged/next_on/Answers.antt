use Rattle.std.proofs.Common.{sym}
use Rattle.radix.specs.Twigs.{mark_of}
use Rattle.xarray.proofs.NearLemmas.{near_on_if}
use Rattle.xarray.proofs.ranged.Ranged.next_on.Goals as goal

pub returns-clause-near : goal.returns-clause-near
returns-clause-near c = rw (c.self.view_is) at (near_on_if c.self.inside.nodes c.self.invariant c.args.from (rw (sym c.self.view_is) at c.requires.outside) (mark_of c.args.twig) c.next_on.result c.next_on.ensures.next c.next_on.ensures.entry c.next_on.ensures.single)
