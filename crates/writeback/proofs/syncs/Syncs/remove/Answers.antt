use Rattle.std.proofs.Common.{◌≡◌, ap, arith, rules, sym, ◌∙◌, ◌+◌, None, Some, option_map, nat_cmp}
use Rattle.std.specs.FinMap as map
use Rattle.maps.proofs.Lengths.{len_one_gone}
use Rattle.machine.specs.State.{Sync}
use Rattle.writeback.specs.Slots.{in_progress, sync_of}
use Rattle.writeback.proofs.SlotLemmas.{get_progress, slot_taken, slot_untaken}
use Rattle.writeback.proofs.syncs.Syncs.remove.Goals as goal

pub returns-in_err-progress-clause-progress : goal.returns-in_err-progress-clause-progress
returns-in_err-progress-clause-progress c =
    ap (option_map sync_of) (c.from_residual.ensures ∙ sym c.in_err-progress.was ∙ c.take_in.ensures.value)
    ∙ get_progress c.self.inside.slots c.args.sync.0
    ∙ ap (λ (m : map.FinMap nat_cmp Sync). map.get m c.args.sync.0) c.self.view_is

pub returns-in_err-progress-clause-removed : goal.returns-in_err-progress-clause-removed
returns-in_err-progress-clause-removed c =
    slot_taken c.self.inside.slots c.take_in.new.slots c.args.sync.0 c.take_in.ensures.taken
    ∙ ap (λ (m : map.FinMap nat_cmp Sync). map.remove m c.args.sync.0) c.self.view_is

pub invariant_of-self : goal.invariant_of-self
invariant_of-self c = (
  search rules,
  c.self.invariant.1
      ∙ sym (ap (λ (m : map.FinMap nat_cmp Sync). map.len m)
      (slot_untaken c.self.inside.slots c.take_in.new.slots c.args.sync.0 c.take_in.ensures.taken
      (sym c.take_in.ensures.value ∙ c.in_err-progress.was))),
)

pub overflow_sub-self : goal.overflow_sub-self
overflow_sub-self c =
    let there : map.get (in_progress c.self.inside.slots) c.args.sync.0 ≡ Some (sync_of c.in_ok-progress.progress) =
    sym (get_progress c.self.inside.slots c.args.sync.0)
    ∙ ap (option_map sync_of) (sym c.take_in.ensures.value ∙ c.in_ok-progress.was) in
    let gone = ap (λ (m : map.FinMap nat_cmp Sync). map.len m)
    (slot_taken c.self.inside.slots c.take_in.new.slots c.args.sync.0 c.take_in.ensures.taken) in
    let one = len_one_gone (in_progress c.self.inside.slots) c.args.sync.0 _ there in
    omega (arith, gone, one, c.self.invariant.1)

pub invariant_of-self-2 : goal.invariant_of-self-2
invariant_of-self-2 c =
    let there : map.get (in_progress c.self.inside.slots) c.args.sync.0 ≡ Some (sync_of c.in_ok-progress.progress) =
    sym (get_progress c.self.inside.slots c.args.sync.0)
    ∙ ap (option_map sync_of) (sym c.take_in.ensures.value ∙ c.in_ok-progress.was) in
    let gone = ap (λ (m : map.FinMap nat_cmp Sync). map.len m)
    (slot_taken c.self.inside.slots c.take_in.new.slots c.args.sync.0 c.take_in.ensures.taken) in
    let one = len_one_gone (in_progress c.self.inside.slots) c.args.sync.0 _ there in
    (search rules, omega (arith, gone, one, c.self.invariant.1))

pub returns-clause-progress : goal.returns-clause-progress
returns-clause-progress c = ap (option_map sync_of) (sym c.in_ok-progress.was ∙ c.take_in.ensures.value)
    ∙ get_progress c.self.inside.slots c.args.sync.0
    ∙ ap (λ (m : map.FinMap nat_cmp Sync). map.get m c.args.sync.0) c.self.view_is

pub returns-clause-removed : goal.returns-clause-removed
returns-clause-removed c = slot_taken c.self.inside.slots c.take_in.new.slots c.args.sync.0 c.take_in.ensures.taken
    ∙ ap (λ (m : map.FinMap nat_cmp Sync). map.remove m c.args.sync.0) c.self.view_is
