use Rattle.std.proofs.Common.{◌≡◌, ap, refl, rules, sym, ◌∙◌, Some, nat_cmp}
use Rattle.std.specs.FinMap as map
use Rattle.maps.specs.Maps.{change_at}
use Rattle.maps.proofs.Lengths.{len_changed}
use Rattle.writeback.specs.Slots.{in_progress}
use Rattle.machine.specs.State.{Sync}
use Rattle.writeback.specs.declared.syncs.Progress.{Progress}
use Rattle.writeback.proofs.SlotLemmas.{slot_changed}
use Rattle.writeback.proofs.syncs.Syncs.started.Goals as goal

pub returns : goal.returns
returns c =
    slot_changed c.self.inside.slots c.start_in.new.slots c.args.sync.0
    (λ (y : Progress). record y { started = Some c.args.page })
    (λ (y : Sync). record y { started = Some c.args.page.0 }) (λ y. refl) c.start_in.ensures
    ∙ ap (λ (m : map.FinMap nat_cmp Sync). change_at c.args.sync.0 (λ y. record y { started = Some c.args.page.0 }) m)
    c.self.view_is

pub invariant_of-self : goal.invariant_of-self
invariant_of-self c =
    let is : in_progress c.start_in.new.slots ≡ change_at c.args.sync.0 _ (in_progress c.self.inside.slots) =
    slot_changed c.self.inside.slots c.start_in.new.slots c.args.sync.0
    (λ (y : Progress). record y { started = Some c.args.page })
    (λ (y : Sync). record y { started = Some c.args.page.0 }) (λ y. refl) c.start_in.ensures in (
      search rules,
      c.self.invariant.1 ∙ sym (ap (λ (m : map.FinMap nat_cmp Sync). map.len m) is ∙ len_changed c.args.sync.0 _ (in_progress c.self.inside.slots)),
    )
