use Rattle.std.proofs.Common.{sym, refl}
use Rattle.xarray.proofs.CallLemmas.{marked_now, marked_ranged, spot_held}
use Rattle.xarray.proofs.ranged.Ranged.set_mark.Goals as goal

pub invariant_of-self : goal.invariant_of-self
invariant_of-self c = marked_ranged c.self.inside.nodes c.self.invariant _ c.in-Some.spot.first c.in-Some.spot.level c.in-Some.spot.value (rw (sym c.self.view_is) at c.in-Some.ensures.spot) c.set_bit.new.self c.number.result 1 c.args.mark c.number.ensures c.set_bit.ensures.puts

pub returns : goal.returns
returns c =
    let spot = rw (sym c.self.view_is) at c.in-Some.ensures.spot in (
      rw (c.self.view_is) at (spot_held c.self.inside.nodes c.self.invariant c.args.index c.in-Some.spot.first c.in-Some.spot.level c.in-Some.spot.value spot),
      rw (c.self.view_is) at (marked_now c.self.inside.nodes c.self.invariant _ c.in-Some.spot.first c.in-Some.spot.level c.in-Some.spot.value spot c.set_bit.new.self c.number.result 1 c.args.index c.args.mark c.number.ensures refl c.set_bit.ensures.puts),
    )
