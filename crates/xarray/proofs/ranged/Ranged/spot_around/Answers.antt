use Rattle.std.proofs.Common.{◌/◌, ◌*◌, ◌^◌, sym, refl, ap, ◌∙◌, subst}
use Rattle.radix.specs.Entries.{IsFound}
use Rattle.xarray.specs.View.{ranges_of}
use Rattle.xarray.proofs.CallLemmas.{stands_beside}
use Rattle.xarray.proofs.SearchLemmas.{spot_leaf}
use Rattle.xarray.proofs.ranged.Ranged.spot_around.Goals as goal

pub returns-in-Leaf-clause-spot : goal.returns-in-Leaf-clause-spot
returns-in-Leaf-clause-spot c =
    let s = c.self.inside.nodes in
    let found = subst (IsFound s c.args.index c.args.level) c.in-Leaf.is (rw (sym c.self.view_is) at c.requires.found) in
    rw (c.self.view_is) at (spot_leaf s (ranges_of s) c.self.invariant.stands c.args.index c.args.level c.in-Leaf.value c.first_at.result found (c.first_at.ensures ∙ ap (λ z. z * 64 ^ c.args.level) c.place_at.ensures))

pub returns-in-Leaf-clause-stands : goal.returns-in-Leaf-clause-stands
returns-in-Leaf-clause-stands c = stands_beside c.args.self.now c.args.cursor c.args.level c.first_at.result c.args.index (c.args.index / 64 ^ c.args.level) (c.first_at.ensures ∙ ap (λ z. z * 64 ^ c.args.level) c.place_at.ensures) refl c.requires.stands

pub spot_named-requires-clause-found : goal.spot_named-requires-clause-found
spot_named-requires-clause-found c = subst (IsFound c.args.self.now c.args.index c.args.level) c.in-Sibling.is c.requires.found
