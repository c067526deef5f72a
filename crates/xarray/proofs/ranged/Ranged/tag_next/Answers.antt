use Rattle.std.proofs.Common.{sym, arith, subst}
use Rattle.radix.specs.Entries.{IsLeaf}
use Rattle.xarray.specs.MarkedArray.{has_mark}
use Rattle.xarray.specs.View.{ranges_of}
use Rattle.xarray.specs.Walks.{IsNear}
use Rattle.xarray.proofs.CallLemmas.{marked_ranged, spot_leaf_at, tags}
use Rattle.xarray.proofs.ranged.Ranged.tag_next.Goals as goal

pub set_bit_kept-requires-clause-leaf : goal.set_bit_kept-requires-clause-leaf
set_bit_kept-requires-clause-leaf c =
    let s = c.self.inside.nodes in
    let near : IsNear (ranges_of s) (has_mark c.args.mark) c.args.from c.args.to c.in-Some-near.ahead.place c.in-Some-near.ahead.value = rw (sym c.self.view_is) at (c.in-Some-near.ensures.near c.if-ahead.true c.args.to c.requires.le) in
    subst IsLeaf (sym (spot_leaf_at s c.self.invariant _ c.in-Some-near.ahead.place 0 c.in-Some-near.ahead.value (near.spot (omega (arith, c.if-place-to.false))))) tt

pub invariant_of-self : goal.invariant_of-self
invariant_of-self c =
    let s = c.self.inside.nodes in
    let near : IsNear (ranges_of s) (has_mark c.args.mark) c.args.from c.args.to c.in-Some-near.ahead.place c.in-Some-near.ahead.value = rw (sym c.self.view_is) at (c.in-Some-near.ensures.near c.if-ahead.true c.args.to c.requires.le) in
    marked_ranged s c.self.invariant _ c.in-Some-near.ahead.place 0 c.in-Some-near.ahead.value (near.spot (omega (arith, c.if-place-to.false))) c.set_bit_kept.new.self c.number.result 1 c.args.other c.number.ensures c.set_bit_kept.ensures.puts

pub returns-clause-tags : goal.returns-clause-tags
returns-clause-tags c =
    let s = c.self.inside.nodes in
    let near : IsNear (ranges_of s) (has_mark c.args.mark) c.args.from c.args.to c.in-Some-near.ahead.place c.in-Some-near.ahead.value = rw (sym c.self.view_is) at (c.in-Some-near.ensures.near c.if-ahead.true c.args.to c.requires.le) in
    let spot = near.spot (omega (arith, c.if-place-to.false)) in
    rw (c.self.view_is) at (tags s c.self.invariant c.args.from c.args.to c.args.mark c.args.other c.in-Some-near.ahead.place 0 c.in-Some-near.ahead.value spot c.set_bit_kept.new.self c.number.result c.in-Some-near.ahead.place 0 c.number.ensures c.set_bit_kept.ensures.puts (near.single spot.range spot.there) (omega arith))
