use Rattle.std.proofs.Common.{◌≡◌, ◌<◌, ◌+◌, ap, arith, rules, sym, refl, subst, ◌∙◌, not, Some, None, is_some, position, Option, nat_cmp, w64}
use Rattle.std.specs.FinMap as map
use Rattle.std.proofs.Math.Facts.{Fits-of_lt}
use Rattle.std.proofs.lemmas.Bool.{false≢true}
use Rattle.pc_types.specs.declared.limits.TheConstants.{MAX_SYNCS}
use Rattle.maps.proofs.Lengths.{len_put_new}
use Rattle.machine.specs.State.{Sync}
use Rattle.machine.specs.Step.{IsLowest}
use Rattle.writeback.specs.Slots.{in_progress}
use Rattle.writeback.specs.declared.syncs.Progress.{Progress}
use Rattle.writeback.proofs.SlotLemmas.{no_room, slot_free, slot_lowest, slot_inside, slot_put, slot_room}
use Rattle.writeback.proofs.syncs.Syncs.begin.Goals as goal

pub returns-in-None-clause-room : goal.returns-in-None-clause-room
returns-in-None-clause-room c =
    let none : position (λ (s : Option Progress). not (is_some s)) c.self.inside.slots ≡ None = sym c.free_place.ensures
    ∙ c.in-None.is in (
      λ e. absurd (false≢true e),
      λ less.
          absurd (no_room c.self.inside.slots MAX_SYNCS c.self.invariant.0 none
          (subst (λ (m : map.FinMap nat_cmp Sync). map.len m < MAX_SYNCS) (sym c.self.view_is) less)),
    )

pub returns-clause-lowest : goal.returns-clause-lowest
returns-clause-lowest c =
    let at : position (λ (s : Option Progress). not (is_some s)) c.self.inside.slots ≡ Some c.in-Some.at =
    sym c.free_place.ensures ∙ c.in-Some.is in
    subst (λ (m : map.FinMap nat_cmp Sync). IsLowest (λ k. is_some (map.get m k)) c.in-Some.at) c.self.view_is
    (slot_lowest c.self.inside.slots c.in-Some.at at)

pub returns-clause-begun : goal.returns-clause-begun
returns-clause-begun c =
    let at : position (λ (s : Option Progress). not (is_some s)) c.self.inside.slots ≡ Some c.in-Some.at =
    sym c.free_place.ensures ∙ c.in-Some.is in
    slot_put c.self.inside.slots c.in-Some.at _ (slot_inside c.self.inside.slots c.in-Some.at at)
    ∙ ap (λ (m : map.FinMap nat_cmp Sync). map.insert m c.in-Some.at
    (let y : Sync = record {
      handle = c.args.handle.0;
      first = c.args.first.0;
      last = c.args.last.0;
      started = None;
      failures = c.args.failures;
      bound = None;
    } in y)) c.self.view_is

pub returns-clause-room : goal.returns-clause-room
returns-clause-room c =
    let at : position (λ (s : Option Progress). not (is_some s)) c.self.inside.slots ≡ Some c.in-Some.at =
    sym c.free_place.ensures ∙ c.in-Some.is in
    let less = slot_room c.self.inside.slots c.in-Some.at at in (
      λ e. subst (λ (m : map.FinMap nat_cmp Sync). map.len m < MAX_SYNCS) c.self.view_is
          (subst (λ n. map.len (in_progress c.self.inside.slots) < n) c.self.invariant.0 less),
      λ l. refl,
    )

pub invariant_of-self : goal.invariant_of-self
invariant_of-self c =
    let at : position (λ (s : Option Progress). not (is_some s)) c.self.inside.slots ≡ Some c.in-Some.at =
    sym c.free_place.ensures ∙ c.in-Some.is in (
      search rules,
      ap (λ n. n + 1) c.self.invariant.1
          ∙ sym (ap (λ (m : map.FinMap nat_cmp Sync). map.len m)
          (slot_put c.self.inside.slots c.in-Some.at _ (slot_inside c.self.inside.slots c.in-Some.at at))
          ∙ len_put_new (in_progress c.self.inside.slots) c.in-Some.at _ (slot_free c.self.inside.slots c.in-Some.at at)),
    )

pub overflow_add-self : goal.overflow_add-self
overflow_add-self c =
    let at : position (λ (s : Option Progress). not (is_some s)) c.self.inside.slots ≡ Some c.in-Some.at =
    sym c.free_place.ensures ∙ c.in-Some.is in
    Fits-of_lt {w = w64} (omega (arith, c.self.invariant.1, c.self.invariant.0, slot_room c.self.inside.slots c.in-Some.at at))
