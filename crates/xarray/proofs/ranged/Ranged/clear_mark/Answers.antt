use Rattle.std.proofs.Common.{false, sym, refl}
use Rattle.xarray.specs.View.{ranges_of}
use Rattle.xarray.proofs.RangeLemmas.{remarked-none}
use Rattle.xarray.proofs.CallLemmas.{marked_now, marked_ranged}
use Rattle.xarray.proofs.ranged.Ranged.clear_mark.Goals as goal

pub invariant_of-self : goal.invariant_of-self
invariant_of-self c = marked_ranged c.self.inside.nodes c.self.invariant _ c.in-Some.spot.first c.in-Some.spot.level c.in-Some.spot.value (rw (sym c.self.view_is) at c.in-Some.ensures.spot) c.clear_bit.new.self c.number.result 0 c.args.mark c.number.ensures c.clear_bit.ensures.puts

pub returns-in-Some : goal.returns-in-Some
returns-in-Some c = rw (c.self.view_is) at (marked_now c.self.inside.nodes c.self.invariant _ c.in-Some.spot.first c.in-Some.spot.level c.in-Some.spot.value (rw (sym c.self.view_is) at c.in-Some.ensures.spot) c.clear_bit.new.self c.number.result 0 c.args.index c.args.mark c.number.ensures refl c.clear_bit.ensures.puts)

pub returns-in_default : goal.returns-in_default
returns-in_default c = sym (remarked-none (ranges_of c.args.self.now) c.args.index c.args.mark false c.in_default.ensures.spot)
