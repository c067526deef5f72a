use Rattle.std.proofs.Common.{sym, arith}
use Rattle.xarray.specs.View.{ranges_of}
use Rattle.xarray.proofs.CallLemmas.{fill_free, fill_now, fill_ranged, one_meets_none}
use Rattle.xarray.proofs.ranged.Ranged.put_one.Goals as goal

pub put-requires-clause-free : goal.put-requires-clause-free
put-requires-clause-free c = one_meets_none (ranges_of c.args.self.now) c.args.index c.requires.free

pub fill-requires-clause-free : goal.fill-requires-clause-free
fill-requires-clause-free c = fill_free c.self.inside.nodes c.self.invariant c.args.index c.args.value c.requires.value (omega (arith, c.ranges.index.fits)) (rw (sym c.self.view_is) at c.requires.free)

pub invariant_of-self : goal.invariant_of-self
invariant_of-self c = fill_ranged c.self.inside.nodes c.self.invariant c.args.index c.args.value c.requires.value (omega (arith, c.ranges.index.fits)) (rw (sym c.self.view_is) at c.requires.free) c.fill.new.self c.fill.ensures.puts c.fill.ensures.unmarked

pub returns-clause-puts : goal.returns-clause-puts
returns-clause-puts c = rw (c.self.view_is) at (fill_now c.self.inside.nodes c.self.invariant c.args.index c.args.value c.requires.value (omega (arith, c.ranges.index.fits)) (rw (sym c.self.view_is) at c.requires.free) c.fill.new.self c.fill.ensures.puts c.fill.ensures.unmarked)
