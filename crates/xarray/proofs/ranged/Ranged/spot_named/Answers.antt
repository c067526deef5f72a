use Rattle.std.proofs.Common.{◌/◌, ◌*◌, ◌+◌, ◌^◌, sym, ap, ◌∙◌, subst, arith}
use Rattle.radix.specs.Entries.{IsLeaf}
use Rattle.xarray.proofs.CallLemmas.{named_fits, named_leaf, named_low, named_small, named_spot, stands_beside}
use Rattle.xarray.proofs.ranged.Ranged.spot_named.Goals as goal

pub beside-requires-clause-within : goal.beside-requires-clause-within
beside-requires-clause-within c =
    let s = c.self.inside.nodes in
    let found = rw (sym c.self.view_is) at c.requires.found in
    named_small s c.self.invariant c.args.index c.args.level c.args.named found

pub leaf_value-value-requires : goal.leaf_value-value-requires
leaf_value-value-requires c =
    let s = c.self.inside.nodes in
    let found = rw (sym c.self.view_is) at c.requires.found in
    subst IsLeaf (sym c.beside.ensures) (named_leaf s c.self.invariant c.args.index c.args.level c.args.named found)

pub overflow_add-place : goal.overflow_add-place
overflow_add-place c =
    let s = c.self.inside.nodes in
    let found = rw (sym c.self.view_is) at c.requires.found in
    let low = named_low s c.self.invariant c.args.index c.args.level c.args.named found in
    omega (arith, low, c.place_at-place.ensures, c.place_at-place.type_inv)

pub first_at-first-requires-clause-fits : goal.first_at-first-requires-clause-fits
first_at-first-requires-clause-fits c =
    let s = c.self.inside.nodes in
    let found = rw (sym c.self.view_is) at c.requires.found in
    let fits = named_fits s c.self.invariant c.args.index c.args.level c.args.named found in
    let same = ap (λ z. (z / 64 * 64 + c.args.named) * 64 ^ c.args.level) c.place_at-place.ensures in
    omega (arith, fits, same)

pub returns-clause-spot : goal.returns-clause-spot
returns-clause-spot c =
    let s = c.self.inside.nodes in
    let found = rw (sym c.self.view_is) at c.requires.found in
    rw (c.self.view_is) at (named_spot s c.self.invariant c.args.index c.args.level c.args.named found c.first_at-first.result c.leaf_value-value.result (c.first_at-first.ensures ∙ ap (λ z. (z / 64 * 64 + c.args.named) * 64 ^ c.args.level) c.place_at-place.ensures) (sym c.beside.ensures ∙ c.leaf_value-value.ensures))

pub returns-clause-stands : goal.returns-clause-stands
returns-clause-stands c =
    let s = c.self.inside.nodes in
    let found = rw (sym c.self.view_is) at c.requires.found in
    let small = named_small s c.self.invariant c.args.index c.args.level c.args.named found in
    stands_beside c.args.self.now c.args.cursor c.args.level c.first_at-first.result c.args.index (c.args.index / 64 ^ c.args.level / 64 * 64 + c.args.named) (c.first_at-first.ensures ∙ ap (λ z. (z / 64 * 64 + c.args.named) * 64 ^ c.args.level) c.place_at-place.ensures) (omega (arith, small)) c.requires.stands
