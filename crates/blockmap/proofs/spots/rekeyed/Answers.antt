use Rattle.std.proofs.Common.{ℕ, ap, sym, subst, ◌∙◌, ◌+◌, ◌*◌, ◌^◌, List, None}
use Rattle.xarray.specs.MarkedArray.{Array, stored}
use Rattle.xarray.specs.declared.entry.Found.{Found}
use Rattle.blockmap.proofs.MoveLemmas.{IsMoving, moving_begins, moving_ends, moving_goes_on}
use Rattle.blockmap.proofs.PlaceLemmas.{below_most}
use Rattle.blockmap.proofs.spots.rekeyed.Goals as goal

pub loop-found-init : goal.loop-found-init
loop-found-init c =
    let from = c.args.from.bits in
    let to = c.args.to.bits in
    let m = c.args.array.now.ranges in
    let walk = c.into_iter-found-iterator.result in (
      tt,
      tt,
      subst (λ (a : Array). IsMoving from to m a.ranges walk) (sym c.new-wide.ensures)
          (moving_begins from to m walk c.requires.are (below_most from c.args.from.is.most) (c.into_iter-found-iterator.ensures.into_iter_gives ∙ c.entries-found-items.ensures)),
    )

pub loop-found-preserved : goal.loop-found-preserved
loop-found-preserved c =
    let from = c.args.from.bits in
    let to = c.args.to.bits in
    let m = c.args.array.now.ranges in
    let wide = c.loop-found.wide.ranges in
    let f = c.in-Some.found in
    let walk = c.next.new.self in
    let moving = subst (λ (w : List Found). IsMoving from to m wide w) c.in-Some.ensures.steps c.loop-found.invariant.2 in
    let key = c.key.ensures ∙ ap (λ (p : ℕ × ℕ). p.0 * 2 ^ to + p.1) c.place-file.ensures in
    let stores = c.in_ok-store.ensures.stores ∙ ap (λ (k : ℕ). let a : Array = record { ranges = stored wide k f.value; ready = None } in a) key in
    (tt, tt, subst (λ (a : Array). IsMoving from to m a.ranges walk) (sym stores) (moving_goes_on from to m wide f walk c.requires.are c.requires.wider moving))

pub returns-clause-same : goal.returns-clause-same
returns-clause-same c = moving_ends c.args.from.bits c.args.to.bits c.args.array.now.ranges c.loop-found.wide.ranges c.loop-found.found-iterator c.loop-found.invariant.2 c.in-None.ensures.steps.0
