use Rattle.std.proofs.Common.{option_map, sym, refl, ap, ◌∙◌}
use Rattle.xarray.specs.View.{ranges_of}
use Rattle.xarray.proofs.RangeLemmas.{stored-none}
use Rattle.xarray.proofs.CallLemmas.{one_meets_none, some_none, valued_now, valued_ranged}
use Rattle.xarray.proofs.SearchLemmas.{walked_none}
use Rattle.xarray.proofs.ranged.Ranged.store.Goals as goal

pub put-requires-clause-free : goal.put-requires-clause-free
put-requires-clause-free c = let s = c.self.inside.nodes in one_meets_none (ranges_of c.args.self.now) c.args.index (rw (c.self.view_is) at (walked_none s (ranges_of s) c.self.invariant.stands c.args.index c.in_default.ensures.found))

pub returns-in_err-put-clause-over : goal.returns-in_err-put-clause-over
returns-in_err-put-clause-over c = λ some. let s = c.self.inside.nodes in absurd (some_none _ some (rw (c.self.view_is) at (walked_none s (ranges_of s) c.self.invariant.stands c.args.index c.in_default.ensures.found)))

pub returns-in_default-clause-before : goal.returns-in_default-clause-before
returns-in_default-clause-before c = let s = c.self.inside.nodes in sym (ap (option_map (λ e. e.1.value)) (rw (c.self.view_is) at (walked_none s (ranges_of s) c.self.invariant.stands c.args.index c.in_default.ensures.found)))

pub returns-in_default-clause-stores : goal.returns-in_default-clause-stores
returns-in_default-clause-stores c = let s = c.self.inside.nodes in c.in_ok-put.ensures.puts ∙ sym (stored-none (ranges_of c.args.self.now) c.args.index c.args.value (rw (c.self.view_is) at (walked_none s (ranges_of s) c.self.invariant.stands c.args.index c.in_default.ensures.found)))

pub invariant_of-self : goal.invariant_of-self
invariant_of-self c = valued_ranged c.self.inside.nodes c.self.invariant _ c.in-Some-spot_in.spot.first c.in-Some-spot_in.spot.level c.in-Some-spot_in.spot.value (rw (sym c.self.view_is) at c.in-Some-spot_in.ensures.spot) c.replace.new.self c.args.value c.requires c.replace.ensures.puts

pub returns-in-Some-spot_in-clause-stores : goal.returns-in-Some-spot_in-clause-stores
returns-in-Some-spot_in-clause-stores c = rw (c.self.view_is) at (valued_now c.self.inside.nodes c.self.invariant _ c.in-Some-spot_in.spot.first c.in-Some-spot_in.spot.level c.in-Some-spot_in.spot.value (rw (sym c.self.view_is) at c.in-Some-spot_in.ensures.spot) c.replace.new.self c.args.value c.args.index c.requires refl c.replace.ensures.puts)

pub returns-clause-stores : goal.returns-clause-stores
returns-clause-stores c = c.in_ok-put_one.ensures.puts ∙ sym (stored-none (ranges_of c.args.self.now) c.args.index c.args.value c.in_default-spot_in.ensures.spot)
