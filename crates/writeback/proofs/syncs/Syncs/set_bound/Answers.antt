use Rattle.std.proofs.Common.{◌≡◌, ap, refl, rules, sym, ◌∙◌, Some, nat_cmp}
use Rattle.std.specs.FinMap as map
use Rattle.writeback.specs.declared.syncs.Progress.{Progress}
use Rattle.machine.specs.State.{Sync}
use Rattle.maps.specs.Maps.{change_at}
use Rattle.maps.proofs.Lengths.{len_changed}
use Rattle.writeback.specs.Slots.{in_progress}
use Rattle.writeback.proofs.SlotLemmas.{slot_changed}
use Rattle.writeback.proofs.syncs.Syncs.set_bound.Goals as goal

pub returns : goal.returns
returns c = slot_changed c.self.inside.slots c.bound_in.new.slots c.args.sync.0
    (λ (s : Progress). record s { bound = Some c.args.bound }) (λ (y : Sync). record y { bound = Some c.args.bound.0 })
    (λ p. refl) c.bound_in.ensures
    ∙ ap (λ (m : map.FinMap nat_cmp Sync). change_at c.args.sync.0
    (λ (y : Sync). record y { bound = Some c.args.bound.0 }) m) c.self.view_is

pub invariant_of-self : goal.invariant_of-self
invariant_of-self c =
    let is : in_progress c.bound_in.new.slots ≡ change_at c.args.sync.0 _ (in_progress c.self.inside.slots) =
    slot_changed c.self.inside.slots c.bound_in.new.slots c.args.sync.0
    (λ (s : Progress). record s { bound = Some c.args.bound }) (λ (y : Sync). record y { bound = Some c.args.bound.0 })
    (λ p. refl) c.bound_in.ensures in (
      search rules,
      c.self.invariant.1 ∙ sym (ap (λ (m : map.FinMap nat_cmp Sync). map.len m) is ∙ len_changed c.args.sync.0 _ (in_progress c.self.inside.slots)),
    )
