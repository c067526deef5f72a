use Rattle.xarray.specs.View.{ranges_of}
use Rattle.xarray.proofs.CallLemmas.{on_err, one_meets_none}
use Rattle.xarray.proofs.SearchLemmas.{walked_none}
use Rattle.xarray.proofs.ranged.Ranged.insert.Goals as goal

pub put-requires-clause-free : goal.put-requires-clause-free
put-requires-clause-free c = let s = c.self.inside.nodes in one_meets_none (ranges_of c.args.self.now) c.args.index (rw (c.self.view_is) at (walked_none s (ranges_of s) c.self.invariant.stands c.args.index c.in_default.ensures.found))

pub returns-in_err-put-clause-same : goal.returns-in_err-put-clause-same
returns-in_err-put-clause-same c = let s = c.self.inside.nodes in on_err _ c.from_residual.result ((rw (c.self.view_is) at (walked_none s (ranges_of s) c.self.invariant.stands c.args.index c.in_default.ensures.found)), c.in_err-put.ensures.same)

pub returns-in_default-clause-free : goal.returns-in_default-clause-free
returns-in_default-clause-free c = let s = c.self.inside.nodes in ((rw (c.self.view_is) at (walked_none s (ranges_of s) c.self.invariant.stands c.args.index c.in_default.ensures.found)), c.in_ok-put.ensures.puts)
