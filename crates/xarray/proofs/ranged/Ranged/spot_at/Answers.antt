use Rattle.std.proofs.Common.{◌/◌, sym, ap, ◌∙◌, subst}
use Rattle.radix.specs.Entries as radix
use Rattle.radix.specs.Entries.{IsLeaf, StandsAt}
use Rattle.xarray.specs.View.{ranges_of}
use Rattle.xarray.proofs.CallLemmas.{leaf_there, place_again}
use Rattle.xarray.proofs.StandLemmas.{leaf-is}
use Rattle.xarray.proofs.ranged.Ranged.spot_at.Goals as goal

pub entry_in-requires : goal.entry_in-requires
entry_in-requires c = rw (sym c.self.view_is) at (subst (λ p. StandsAt c.args.self.now c.args.next.cursor c.args.next.level (p / 64)) (sym (place_again c.first_at-first.result c.args.next.level c.args.next.place c.first_at-first.ensures)) c.requires.stands)

pub leaf_value-value-requires : goal.leaf_value-value-requires
leaf_value-value-requires c =
    subst IsLeaf (sym c.entry_in.ensures) (leaf_there c.self.inside.nodes c.first_at-first.result c.args.next.level c.args.next.place c.first_at-first.ensures (rw (sym c.self.view_is) at c.requires.leaf))

pub returns-clause-entry : goal.returns-clause-entry
returns-clause-entry c =
    let s = c.self.inside.nodes in
    let leaf = ap (radix.entry_at s c.args.next.level) (sym (place_again c.first_at-first.result c.args.next.level c.args.next.place c.first_at-first.ensures)) ∙ sym c.entry_in.ensures ∙ c.leaf_value-value.ensures in
    rw (c.self.view_is) at (leaf-is s (ranges_of s) c.self.invariant.stands c.args.next.level c.args.next.place c.leaf_value-value.result leaf)

pub returns-clause-stands : goal.returns-clause-stands
returns-clause-stands c = subst (λ p. StandsAt c.args.self.now c.args.next.cursor c.args.next.level (p / 64)) (sym (place_again c.first_at-first.result c.args.next.level c.args.next.place c.first_at-first.ensures)) c.requires.stands
