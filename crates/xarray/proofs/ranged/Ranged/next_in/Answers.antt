use Rattle.std.proofs.Common.{sym, arith}
use Rattle.xarray.specs.View.{ranges_of}
use Rattle.xarray.proofs.StandLemmas.{leaf-is}
use Rattle.xarray.proofs.SearchLemmas.{any_past, any_spot}
use Rattle.xarray.proofs.ranged.Ranged.next_in.Goals as goal

pub returns-then-near-to-clause-spot : goal.returns-then-near-to-clause-spot
returns-then-near-to-clause-spot c =
    let s = c.self.inside.nodes in
    let t = leaf-is s (ranges_of s) c.self.invariant.stands 0 c.in-Some.near.place c.in-Some.near.value c.in-Some.ensures.next.entry in
    rw (c.self.view_is) at (any_past s (ranges_of s) c.self.invariant.stands c.args.from c.args.to (rw (sym c.self.view_is) at c.requires.outside) 0 c.in-Some.near.place c.in-Some.near.value t c.in-Some.ensures.next.next (omega (arith, t.first_is, c.if-near-to.true)))

pub returns-clause-spot : goal.returns-clause-spot
returns-clause-spot c =
    let s = c.self.inside.nodes in
    let t = leaf-is s (ranges_of s) c.self.invariant.stands 0 c.in-Some.near.place c.in-Some.near.value c.in-Some.ensures.next.entry in
    rw (c.self.view_is) at (any_spot s (ranges_of s) c.self.invariant.stands c.args.from c.args.to (rw (sym c.self.view_is) at c.requires.outside) 0 c.in-Some.near.place c.in-Some.near.value t c.in-Some.ensures.next.next c.requires.le (omega (arith, t.first_is, c.if-near-to.false)) c.in-Some.near.place (omega (arith, t.first_is)))
