use Rattle.std.proofs.Common.{◌*◌, ◌/◌, ◌^◌, Some, option_map, sym, refl, ap, ◌∙◌, subst}
use Rattle.radix.specs.Entries.{IsWalked}
use Rattle.xarray.specs.View.{ranges_of}
use Rattle.xarray.proofs.CallLemmas.{spot_value}
use Rattle.xarray.proofs.SearchLemmas.{spot_leaf, walked_none}
use Rattle.xarray.proofs.ranged.Ranged.load.Goals as goal

pub returns-in_default : goal.returns-in_default
returns-in_default c = let s = c.self.inside.nodes in rw (c.self.view_is) at (sym (ap (option_map (λ e. e.1.value)) (walked_none s (ranges_of s) c.self.invariant.stands c.args.index c.in_default.ensures.found)))

pub returns-in_default-entry : goal.returns-in_default-entry
returns-in_default-entry c =
    let s = c.self.inside.nodes in
    let found = subst (IsWalked s c.args.index c.in-Some.walk.level) c.in_default-entry.is c.in-Some.ensures.found in
    rw (c.self.view_is) at (sym (ap (option_map (λ e. e.1.value)) (walked_none s (ranges_of s) c.self.invariant.stands c.args.index found)))

pub returns-in-Leaf : goal.returns-in-Leaf
returns-in-Leaf c =
    let s = c.self.inside.nodes in
    let level = c.in-Some.walk.level in
    let found = subst (IsWalked s c.args.index level) (c.in-Some-entry.is ∙ ap (λ x. Some x) c.in-Leaf.is) c.in-Some.ensures.found in
    rw (c.self.view_is) at (spot_value s c.self.invariant c.args.index (c.args.index / 64 ^ level * 64 ^ level) level c.in-Leaf.value (spot_leaf s (ranges_of s) c.self.invariant.stands c.args.index level c.in-Leaf.value (c.args.index / 64 ^ level * 64 ^ level) found refl))
