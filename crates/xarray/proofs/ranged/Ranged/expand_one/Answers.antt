use Rattle.std.proofs.Common.{sym}
use Rattle.xarray.proofs.SplitLemmas.{expand_now, expand_ranged}
use Rattle.xarray.proofs.ranged.Ranged.expand_one.Goals as goal

pub invariant_of-self : goal.invariant_of-self
invariant_of-self c = expand_ranged c.self.inside.nodes c.self.invariant c.args.first c.args.level (rw (sym c.self.view_is) at c.requires.whole) c.requires.inner c.expand.new.self c.args.step c.requires.step c.expand.ensures.parts

pub returns-clause-parts : goal.returns-clause-parts
returns-clause-parts c = rw (c.self.view_is) at (expand_now c.self.inside.nodes c.self.invariant c.args.first c.args.level (rw (sym c.self.view_is) at c.requires.whole) c.requires.inner c.expand.new.self c.args.step c.requires.step c.expand.ensures.parts)

pub returns-clause-room : goal.returns-clause-room
returns-clause-room c = rw (c.self.view_is) at c.expand.ensures.room
