use Rattle.std.proofs.Common.{Some, ap, refl, subst, sym}
use Rattle.std.specs.Prelude.{map as map_list}
use Rattle.xarray.specs.MarkedArray.{found_of}
use Rattle.xarray.specs.View.{ranges_of}
use Rattle.xarray.specs.Walks.{IsAfter, kind_of}
use Rattle.xarray.proofs.WalkLemmas.{slot_after, step_first, step_place, step_twig, walk_none}
use Rattle.xarray.proofs.ranged.Ranged.step_from.Goals as goal

pub returns-in_default-clause-first : goal.returns-in_default-clause-first
returns-in_default-clause-first c = ap (map_list found_of) (walk_none (kind_of c.args.mark) (ranges_of c.args.self.now) c.args.from c.args.to c.in_default.ensures.spot)

pub returns-clause-first : goal.returns-clause-first
returns-clause-first c =
    let spot = c.in-Some.ensures.spot in
    step_first (ranges_of c.args.self.now) (rw (c.self.view_is) at c.self.invariant.stands.shape) c.args.mark c.args.from c.args.to c.in-Some.spot.first c.in-Some.spot.level c.in-Some.spot.value spot c.order_beside-order.result c.last_of-last.result
    (c.order_beside-order.ensures spot.range spot.there) c.last_of-last.ensures c.index_after.result c.index_after.ensures

pub twig_of-requires : goal.twig_of-requires
twig_of-requires c =
    let spot = c.in-Some.ensures.spot in
    (slot_after (ranges_of c.args.self.now) (rw (c.self.view_is) at c.self.invariant.stands.shape) c.args.mark c.args.from c.args.to c.in-Some.spot.first c.in-Some.spot.level c.in-Some.spot.value spot c.order_beside-order.result c.last_of-last.result
    (c.order_beside-order.ensures spot.range spot.there) c.last_of-last.ensures c.args.self.now c.in-Some.spot.cursor c.in-Some.ensures.stands c.place_at-place.result c.place_at-place.ensures).stands

pub returns-clause-place : goal.returns-clause-place
returns-clause-place c =
    let spot = c.in-Some.ensures.spot in
    let shape = rw (c.self.view_is) at c.self.invariant.stands.shape in
    let order = c.order_beside-order.ensures spot.range spot.there in
    let slot = slot_after (ranges_of c.args.self.now) shape c.args.mark c.args.from c.args.to c.in-Some.spot.first c.in-Some.spot.level c.in-Some.spot.value spot c.order_beside-order.result c.last_of-last.result
    order c.last_of-last.ensures c.args.self.now c.in-Some.spot.cursor c.in-Some.ensures.stands c.place_at-place.result c.place_at-place.ensures in
    step_place (ranges_of c.args.self.now) shape c.args.mark c.args.from c.args.to c.in-Some.spot.first c.in-Some.spot.level c.in-Some.spot.value spot c.order_beside-order.result c.last_of-last.result
    order c.last_of-last.ensures c.args.self.now refl c.index_after.result c.index_after.ensures c.twig_of.result
    (Some (record { cursor = c.in-Some.spot.cursor; level = c.in-Some.spot.level; place = c.place_at-place.result }))
    (step_twig (ranges_of c.args.self.now) shape c.args.mark c.args.from c.args.to c.in-Some.spot.first c.in-Some.spot.level c.in-Some.spot.value spot c.order_beside-order.result c.last_of-last.result
    order c.last_of-last.ensures c.args.self.now c.place_at-place.result c.place_at-place.ensures c.twig_of.result c.twig_of.ensures)
    (λ n is none. subst (IsAfter c.args.self.now (record { cursor = c.in-Some.spot.cursor; level = c.in-Some.spot.level; place = c.place_at-place.result })) (sym is) slot)
