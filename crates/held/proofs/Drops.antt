-- A sync that is given up.
use Rattle.std.proofs.Common.{◌≡◌, ℕ, Bool, true, false, refl, ap, sym, subst, ◌∙◌, arith, inl, inr}
use Rattle.std.specs.Prelude.{◌⊎◌, Result, Ok, Err, is_err, is_some, None}
use Rattle.std.specs.FinMap as finmap
use Rattle.pc_types.specs.declared.ids.SyncId.{SyncId}
use Rattle.pc_types.specs.declared.refusal.Refusal.{Refusal}
use Rattle.pc_types.specs.declared.refusal.Refusal.TheVariants.{Stranger}
use Rattle.cachecore.specs.Core.{Core}
use Rattle.machine.specs.declared.event.Event.TheVariants as event
use Rattle.machine.specs.declared.event.Reply.TheVariants as reply
use Rattle.cachecore.specs.Replies.{sync_dropped}
use Rattle.machine.specs.Catalogs.{Catalog}
use Rattle.machine.specs.State.{State}
use Rattle.machine.specs.Step.{Step}
use Rattle.machine.specs.Tests.{tests}
use Rattle.machine.proofs.steps.Cases.{answered}
use Rattle.machine.proofs.steps.Choices.{quiet_unless}
use Rattle.held.specs.Kept.{IsHeld}
use Rattle.trail.specs.Room.{event_need, fits_beside, has_room, need_of_end, reserved}
use Rattle.held.specs.Shown.{LogSeen}
use Rattle.held.proofs.Ends.{room_if_refused}
use Rattle.held.proofs.Holds.{end_room, room_is}

pub drop_refused : (s : State) (n : SyncId) (why : Refusal) (new : State)
    → Step s (event.SyncDrop n) (reply.Refused why) new → new ≡ s
drop_refused s n why new h =
    elim (answered (tests s (event.SyncDrop n)) s (event.SyncDrop n) (reply.Refused why) new h)
    [ inl a ↦ a.1 | inr a ↦ absurd a.1 ]

pub drop_core_back : (old new : Core) (n : SyncId) (why : Refusal)
    → Step old.state (event.SyncDrop n) (reply.Refused why) new.state → new.lists ≡ old.lists → new ≡ old
drop_core_back old new n why h l = let k = drop_refused old.state n why new.state h in
    (λ i. record { state = k i; lists = l i })

-- what the drop needs: nothing where the sync is in progress, else an entry, and it is refused then
abbrev DropNeeds : ℕ → Result Unit Refusal → Type 0
DropNeeds need a = ((need ≡ 0) × ((x : Refusal) → a ≡ Err x → ⊥)) ⊎ ((need ≡ 1) × ((x : Refusal) × (a ≡ Err x)))

drop_needs : (s : State) (n : SyncId) (a : Result Unit Refusal) (new : State)
    → Step s (event.SyncDrop n) (sync_dropped a) new → DropNeeds (event_need s (event.SyncDrop n)) a
drop_needs s n (Ok u) new h =
    elim (answered (tests s (event.SyncDrop n)) s (event.SyncDrop n) reply.Dropped new h) [
      | inl x ↦ absurd (quiet_unless (λ y. y ≡ reply.Dropped → ⊥) (is_some (finmap.get s.syncs n.0))
          (reply.Refused Stranger) (λ z. absurd cc) reply.Dropped x.0 refl)
      | inr x ↦ inl (ap need_of_end x.0, λ y is. absurd cc)
    ]
drop_needs s n (Err e) new h =
    elim (answered (tests s (event.SyncDrop n)) s (event.SyncDrop n) (reply.Refused e) new h)
    [ inl x ↦ inr (ap need_of_end x.0, (e, refl)) | inr x ↦ absurd x.1 ]

pub drop_back : (old new : Core) (n : SyncId) (a : Result Unit Refusal)
    → Step old.state (event.SyncDrop n) (sync_dropped a) new.state → new.lists ≡ old.lists → (x : Refusal) → a ≡ Err x
    → new ≡ old
drop_back old new n a step lists x is =
    drop_core_back old new n x (subst (λ b. Step old.state (event.SyncDrop n) (sync_dropped b) new.state) is step) lists

module _ {files : Catalog} (old : LogSeen) (core next : State) (i : IsHeld files old core) (n : SyncId) (a : Result Unit Refusal)
    (s : Step core (event.SyncDrop n) (sync_dropped a) next) where
  pub drop_room : (room : Bool) → room ≡ fits_beside old.room core.sizes.page (reserved core) 1 0
      → ((x : Refusal) → a ≡ Err x → room ≡ true) → has_room old.room (reserved core) core (event.SyncDrop n) ≡ true
  drop_room room is kept = end_room old core (event.SyncDrop n) i refl (elim (drop_needs core n a next s) [
    | inl k ↦ inl k.0
    | inr k ↦ inr (k.0, sym is ∙ kept k.1.0 k.1.1)
  ])

  pub drop_goes_on : tests core (event.SyncDrop n) ≡ None → (x : Refusal) → a ≡ Err x → ⊥
  drop_goes_on none x err = elim (drop_needs core n a next s) [
    | inl k ↦ k.1 x err
    | inr k ↦ absurd (let e : 1 ≡ 0 = sym k.0 ∙ ap need_of_end none in omega arith)
  ]

  pub drop_is_full : (room : Bool) → room ≡ fits_beside old.room core.sizes.page (reserved core) 1 0 → (x : Refusal)
      → a ≡ Err x → room ≡ false → has_room old.room (reserved core) core (event.SyncDrop n) ≡ false
  drop_is_full room is x err none = elim (drop_needs core n a next s) [
    | inl k ↦ absurd (k.1 x err)
    | inr k ↦ sym (room_is old core 1 0 (event.SyncDrop n) room is k.0 refl) ∙ none
  ]

pub drop_fits : {files : Catalog} (old : LogSeen) (core : State) (i : IsHeld files old core) (n : SyncId) (a : Result Unit Refusal) (next : State)
    → Step core (event.SyncDrop n) (sync_dropped a) next → (refused room : Bool)
    → room ≡ fits_beside old.room core.sizes.page (reserved core) 1 0 → refused ≡ is_err a
    → (refused ≡ true → room ≡ true) → has_room old.room (reserved core) core (event.SyncDrop n) ≡ true
drop_fits old core i n a next step refused room is err kept =
    drop_room old core next i n a step room is (room_if_refused a refused room err kept)
