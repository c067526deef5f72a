-- An end is of a request in flight: the deed of its block was out for it. So no test of it holds, and it has its room.
use Rattle.std.proofs.Common.{◌≡◌, ℕ, true, List, refl, ap, sym, subst, ◌∙◌}
use Rattle.std.specs.Prelude.{Bool, IsOk, Some, None, Result, Ok, Err}
use Rattle.std.specs.FinMap as map
use Rattle.blockdev.specs.Device as device
use Rattle.blockdev.specs.Jobs.{FinishedTask}
use Rattle.cachecore.specs.Replies.{end_of, outcome_of}
use Rattle.cachecore.specs.declared.answers.Ended.{Ended}
use Rattle.cachecore.specs.declared.answers.RefusedEnd.{RefusedEnd}
use Rattle.deeds.specs.Shown.{Settles}
use Rattle.deeds.specs.declared.views.Place.{Place}
use Rattle.machine.specs.declared.event.Event.TheVariants as event
use Rattle.machine.specs.declared.event.Outcome.{Outcome}
use Rattle.machine.specs.State.{State, Request}
use Rattle.machine.specs.Step.{Step}
use Rattle.machine.specs.Tests.{fits, tests}
use Rattle.machine.proofs.steps.Ends.{own_end, own_end_passes}
use Rattle.pc_types.specs.declared.kind.Kind.{Kind}
use Rattle.pc_types.specs.declared.kind.Kind.TheVariants.{Fill, Flush}
use Rattle.tied.specs.Tied.{IsCovered}
use Rattle.trail.specs.Room.{event_need, need_of_end}
use Rattle.held.specs.Ends.{ended_as}
use Rattle.held.proofs.Ends.{refused_reply}
use Rattle.held.proofs.Replied.{end_taken}

-- a finished job is of the request in flight whose deed it has
record IsDeeded (core : State) (f : FinishedTask) : Type 0 where
  x : Request
  is : map.get core.requests f.serial ≡ Some x
  kind : f.kind ≡ x.kind
  block : f.block ≡ x.block
  cache : f.cache ≡ core.name

deeded : (core : State) (places after : List Place) (told : Bool) (f : FinishedTask) → IsCovered core places
    → Settles told places f after → IsDeeded core f
deeded core places after told f covered s =
    let o = covered.owned f.block s.given s.out in
    record {
      x = o.x;
      is = ap (λ t. map.get core.requests t) s.comes.serial ∙ o.is;
      kind = s.comes.kind ∙ (λ i. (o.task i).kind);
      block = sym o.block_is;
      cache = s.comes.cache ∙ (λ i. (o.task i).cache);
    }

fitting : (k : Kind) (r : device.Outcome) (bytes : List ℕ) → fits k (outcome_of k r bytes) ≡ true
fitting Fill (Ok u) bytes = refl
fitting Fill (Err c) bytes = refl
fitting Flush (Ok u) bytes = refl
fitting Flush (Err c) bytes = refl

module _ (core : State) (places after : List Place) (told : Bool) (f : FinishedTask) (covered : IsCovered core places)
    (s : Settles told places f after) (kind : Kind) (of_kind : f.kind ≡ kind) where
  pub untested : tests core (event.End kind (end_of f)) ≡ None
  untested =
      let d = deeded core places after told f covered s in
      let call : Outcome = outcome_of f.kind f.outcome f.bytes in
      let own : end_of f ≡ own_end core f.serial d.x call = (λ i. record {
        cache = d.cache i;
        kind = d.kind i;
        serial = record { 0 = f.serial };
        block = record { 0 = d.block i };
        outcome = call;
      }) in
      ap (λ k. tests core (event.End k (end_of f))) (sym of_kind)
      ∙ (λ i. tests core (event.End (d.kind i) (own i)))
      ∙ own_end_passes core f.serial d.x call d.is
      (ap (λ k. fits k call) (sym d.kind) ∙ fitting f.kind f.outcome f.bytes)

  pub needs_none : event_need core (event.End kind (end_of f)) ≡ 0
  needs_none = ap need_of_end untested

  pub goes : (a : Result Ended RefusedEnd) (next : State) → Step core (event.End kind (end_of f)) (ended_as kind a) next
      → (x : RefusedEnd) → a ≡ Err x → ⊥
  goes a next step x is =
      end_taken core kind (end_of f) x.refusal next
      (subst (λ r. Step core (event.End kind (end_of f)) r next) (ap (ended_as kind) is ∙ refused_reply kind x) step) untested

  pub goes_well : (a : Result Ended RefusedEnd) (next : State)
      → Step core (event.End kind (end_of f)) (ended_as kind a) next → IsOk a
  goes_well (Ok b) next step = refl
  goes_well (Err x) next step = absurd (goes (Err x) next step x refl)
