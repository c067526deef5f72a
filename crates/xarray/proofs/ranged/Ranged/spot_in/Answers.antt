use Rattle.std.proofs.Common.{Some, sym, ap, ◌∙◌, subst, arith}
use Rattle.radix.specs.Entries.{IsWalked}
use Rattle.radix.specs.declared.entry.Entry.TheVariants.{Leaf}
use Rattle.xarray.specs.View.{ranges_of}
use Rattle.xarray.proofs.SearchLemmas.{spot_leaf, walked_none}
use Rattle.xarray.proofs.ranged.Ranged.spot_in.Goals as goal

pub returns-in_default-clause-spot : goal.returns-in_default-clause-spot
returns-in_default-clause-spot c =
    let s = c.self.inside.nodes in
    let found = subst (IsWalked s c.args.index c.args.level) c.in_default.is (rw (sym c.self.view_is) at c.requires.walked) in
    rw (c.self.view_is) at (walked_none s (ranges_of s) c.self.invariant.stands c.args.index found)

pub returns-clause-spot : goal.returns-clause-spot
returns-clause-spot c =
    let s = c.self.inside.nodes in
    let found = subst (IsWalked s c.args.index c.args.level) (c.in-Some.is ∙ ap (λ x. Some x) c.in-Leaf.is) (rw (sym c.self.view_is) at c.requires.walked) in
    let low = subst (λ l. IsWalked s c.args.index l (Some (Leaf c.in-Leaf.value))) c.if-level-eq0.true found in
    rw (c.self.view_is) at (spot_leaf s (ranges_of s) c.self.invariant.stands c.args.index 0 c.in-Leaf.value c.args.index low (omega arith))
