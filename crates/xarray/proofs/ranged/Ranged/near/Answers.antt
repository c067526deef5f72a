use Rattle.std.proofs.Common.{sym}
use Rattle.xarray.proofs.NearLemmas.{near_any_if, near_marked_if}
use Rattle.xarray.proofs.ranged.Ranged.near.Goals as goal

pub returns-in-None-clause-near : goal.returns-in-None-clause-near
returns-in-None-clause-near c = rw (c.in-None.is) (rw (c.self.view_is) at (near_any_if c.self.inside.nodes c.self.invariant c.args.from (rw (sym c.self.view_is) at c.requires.outside) c.next_entry_near.result c.next_entry_near.ensures.next c.next_entry_near.ensures.alone))

pub returns-in-Some-clause-near : goal.returns-in-Some-clause-near
returns-in-Some-clause-near c = rw (c.in-Some.is) (rw (c.self.view_is) at (near_marked_if c.self.inside.nodes c.self.invariant c.args.from (rw (sym c.self.view_is) at c.requires.outside) c.in-Some.mark c.number.result c.number.ensures c.next_set_near.result c.next_set_near.ensures.next c.next_set_near.ensures.alone))
