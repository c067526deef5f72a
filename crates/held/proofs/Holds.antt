-- One event more: what holds of a cache with its history goes on.
use Rattle.std.proofs.Common.{◌≡◌, ℕ, ◌≤◌, Bool, true, false, List, [], ◌∷◌, ◌++◌, map, refl, ap, sym, subst, ◌∙◌, arith}
use Rattle.std.proofs.Common.{inl, inr}
use Rattle.std.specs.Prelude.{◌⊎◌, IfErr, IfOk, Result, Ok, Err, None, Some}
use Rattle.atomic_table.specs.Seated.{TableId}
use Rattle.errboard.specs.Shown.{RecorderSeen}
use Rattle.machine.specs.declared.event.Event.{Event}
use Rattle.machine.specs.declared.event.Event.TheVariants as event
use Rattle.machine.specs.declared.event.Reply.{Reply}
use Rattle.machine.specs.declared.event.Reply.TheVariants as reply
use Rattle.machine.specs.ListChanges.{lists_after}
use Rattle.machine.specs.Sound.{Sound}
use Rattle.machine.specs.State.{State}
use Rattle.machine.specs.Step.{Step}
use Rattle.machine.proofs.sound.Steps.{histories_are_sound}
use Rattle.machine.proofs.steps.Steady.{steady}
use Rattle.pc_types.specs.Limits.{Sizes}
use Rattle.machine.specs.Catalogs.{Catalog}
use Rattle.pc_types.specs.declared.kind.Kind.TheVariants.{Flush}
use Rattle.pc_types.specs.declared.refusal.Refusal.{Refusal}
use Rattle.pc_types.specs.declared.refusal.Refusal.TheVariants.{TrailFull}
use Rattle.trail.specs.declared.entry.Entry.{Entry}
use Rattle.trail.specs.Entries.{bytes_in, entry_of, entry_with, event_with, noted, reply_with}
use Rattle.trail.specs.History.{After, seatless}
use Rattle.trail.specs.Room.{Room, byte_need, entry_room, event_need, fits, fits_beside, has_room, less, keeps_room, reserved}
use Rattle.trail.proofs.HistoryLaws.{after_step}
use Rattle.trail.proofs.RoomLaws.{reserved_has_room, room_kept}
use Rattle.held.specs.declared.denied.Denied.{Denied}
use Rattle.held.specs.declared.log.Slip.{Slip}
use Rattle.held.specs.Called.{Only}
use Rattle.held.specs.Denials.{DeniedBy, IsDenied}
use Rattle.held.specs.Entered.{Entered, Made, Records, has_room_for}
use Rattle.held.specs.Keeps.{IsLocked, room_after}
use Rattle.held.specs.Kept.{IsHeld}
use Rattle.held.specs.Shown.{HeldSeen, LogSeen, SeatSeen}
use Rattle.held.proofs.Failures.{told_on}
use Rattle.held.proofs.Seats.{shown_as}
use Rattle.held.proofs.Sizes.{none_in}

-- ---- the room that the code asks for is that of the rule

pub room_is : (old : LogSeen) (core : State) (n b : ℕ) (e : Event) (answer : Bool)
    → answer ≡ fits_beside old.room core.sizes.page (reserved core) n b → event_need core e ≡ n → byte_need core e ≡ b
    → answer ≡ has_room old.room (reserved core) core e
room_is old core n b e answer is need bytes =
    is ∙ (λ j. fits_beside old.room core.sizes.page (reserved core) (sym need j) (sym bytes j))

-- an end needs the room that is reserved for it, or where it is refused an entry
pub end_room : {files : Catalog} (old : LogSeen) (core : State) (e : Event) → IsHeld files old core → byte_need core e ≡ 0
    → (event_need core e ≡ 0)
    ⊎ ((event_need core e ≡ 1) × (fits_beside old.room core.sizes.page (reserved core) 1 0 ≡ true))
    → has_room old.room (reserved core) core e ≡ true
end_room {files} old core e i bytes need = elim need [
  | inl none ↦ reserved_has_room old.room core e i.room none bytes
  | inr one ↦ sym (room_is old core 1 0 e (fits_beside old.room core.sizes.page (reserved core) 1 0) refl one.0 bytes) ∙ one.1
]

pub none_needed : (n : ℕ) → 0 ≤ n
none_needed n = omega arith

-- an entry of so many bytes fits
pub entry_fits : (old : LogSeen) (core next : State) (e : Event) (r : Reply) (c : ℕ)
    → has_room old.room (reserved core) core e ≡ true → Step core e r next → c ≤ entry_room core e
    → fits old.room 1 c ≡ true
entry_fits old core next e r c has s le = (room_kept old.room core next e r has s c le).0

-- ---- the event is entered

records_board : (s : State) (e : Event) (r : Reply) (old new : RecorderSeen) → Records s e r old new
    → new.board ≡ old.board
records_board s (event.End Flush end) (reply.Failed code) old new h = h.3.0
records_board s e r old new h = ap (λ (x : RecorderSeen). x.board) h

-- all that holds under the lock
abbrev pub Whole : ℕ → TableId → TableId → Catalog → Sizes → ℕ → Room → HeldSeen → Type 0
Whole name table board files sizes seats whole h = IsHeld files h.log h.core.state × IsLocked name table board sizes seats whole h

-- the room that is left after one entry more
room_push : (whole : Room) (es : List Entry) (e : Entry) → room_after whole (es ++ e ∷ []) ≡ less (room_after whole es) (bytes_in e)
room_push whole [] e = refl
room_push whole (x ∷ es) e = room_push (less whole (bytes_in x)) es e

module _ (name : ℕ) (table board : TableId) (files : Catalog) (sizes : Sizes) (seats : ℕ) (whole : Room) (old new : HeldSeen) (before after : SeatSeen)
    (slip : Slip) (i : Whole name table board files sizes seats whole old) where
  -- an event for which there was room, with c bytes in its entry
  pub went : (e : Event) (r : Reply) (entry : Entry) (c : ℕ)
      → has_room old.log.room (reserved old.core.state) old.core.state e ≡ true → c ≤ entry_room old.core.state e
      → entry ≡ entry_of before.number e r → c ≡ bytes_in (entry_of before.number e r)
      → Step old.core.state e r new.core.state → new.core.lists ≡ lists_after old.core.state e r old.core.lists
      → Entered entry old.log new.log before after slip → new.log.room ≡ less old.log.room c
      → Records old.core.state e r old.errors new.errors
      → Made e r old new before after slip × Whole name table board files sizes seats whole new
  went e r entry c has le is count s lists h room errors =
      let same = steady old.core.state e r new.core.state s in
      let history : new.log.history ≡ old.log.history ++ entry_of before.number e r ∷ [] =
      h.history ∙ ap (λ x. old.log.history ++ x ∷ []) is in
      let sound : Sound old.core.state =
      histories_are_sound files old.core.state.sizes old.core.state.name (map seatless old.log.history) old.core.state
      i.0.history.0 i.0.history.1 in
      let kept = (room_kept old.log.room old.core.state new.core.state e r has s c le).1 in (
        record {
          fitted = has;
          step = s;
          lists = lists;
          entered = subst (λ x. Entered x old.log new.log before after slip) is h;
          room = room ∙ ap (less old.log.room) count;
          recorded = errors;
        },
        (
          record {
            history = subst (λ l. After files new.core.state.sizes new.core.state.name l new.core.state) (sym history)
                (after_step files old.log.history before.number old.core.state new.core.state e r i.0.history s);
            name = h.same.1 ∙ i.0.name ∙ sym same.name;
            room = ap (λ x. keeps_room x new.core.state.sizes.page (reserved new.core.state)) room ∙ kept;
          },
          record {
            named = h.same.1 ∙ i.1.named;
            seats = h.same.0 ∙ i.1.seats;
            errors = records_board old.core.state e r old.errors new.errors errors ∙ i.1.errors;
            sized = same.sizes ∙ i.1.sized;
            counted = h.same.2 ∙ i.1.counted;
            told = told_on old.core.state new.core.state e r old.errors new.errors sound s errors i.1.told;
            room = room ∙ (λ j. less (i.1.room j) (count j))
                ∙ sym (room_push whole old.log.history (entry_of before.number e r)) ∙ ap (room_after whole) (sym history);
          },
        ),
      )

  -- an event without bytes whose entry is made as it stands
  pub bare : (e : Event) (a r : Reply) → event_with e [] ≡ noted e a → reply_with a [] ≡ a
      → has_room old.log.room (reserved old.core.state) old.core.state e ≡ true
      → Step old.core.state e a new.core.state → new.core.lists ≡ lists_after old.core.state e a old.core.lists → r ≡ a
      → Entered (entry_with (record { seat = before.number; event = e; reply = r }) []) old.log new.log before after slip
      → new.log.room ≡ less old.log.room 0 → Records old.core.state e a old.errors new.errors
      → Made e a old new before after slip × Whole name table board files sizes seats whole new
  bare e a r is_event is_reply has s lists is entered room errors =
      let same : entry_with (record { seat = before.number; event = e; reply = r }) [] ≡ entry_of before.number e a =
      (λ j. record {
        seat = before.number;
        event = is_event j;
        reply = (ap (λ x. reply_with x []) is ∙ is_reply) j;
      }) in
      went e a _ 0 has (none_needed _) same (none_in (record { seat = before.number; event = e; reply = r }) _ same) s
      lists entered room errors

-- ---- as callers see it

module _ {A : Type 0} (e : Event) (as_reply : Result A Refusal → Reply) (old now new : HeldSeen) (before after : SeatSeen)
    (slip : Slip) (answer : Result A Refusal) (same : old ≡ now) where
  -- an answer that was told
  pub told_made : (result : Result (A × Slip) Denied) → IfOk result (λ r. (answer ≡ Ok r.0) × (r.1 ≡ slip))
      → Made e (as_reply answer) old new before after slip
      → IfOk result (λ r. Made e (as_reply (Ok r.0)) now new before after r.1)
  told_made (Err d) told made = tt
  told_made (Ok r) told made =
      subst (λ x. Made e (as_reply (Ok r.0)) now new before after x) (sym told.1)
      (subst (λ x. Made e (as_reply x) now new before after slip) told.0
      (subst (λ x. Made e (as_reply answer) x new before after slip) same made))

  -- a refusal that was told
  pub told_denied : (files : Catalog) (sizes : Sizes) (name : ℕ) (whole : Room) (result : Result (A × Slip) Denied)
      → IfErr result (λ d. (answer ≡ Err d.refusal) × (d.slip ≡ Some slip))
      → ((why : Refusal) → as_reply (Err why) ≡ reply.Refused why) → Made e (as_reply answer) old new before after slip
      → IfErr result (IsDenied files sizes name whole e now new before after)
  told_denied files sizes name whole (Ok r) told refused made = tt
  told_denied files sizes name whole (Err d) told refused made = denied_by d told.1 (subst (λ x. Made e x now new before after slip)
      (ap as_reply told.0 ∙ refused d.refusal) (subst (λ x. Made e (as_reply answer) x new before after slip) same made))
    where
      denied_by : (d : Denied) → d.slip ≡ Some slip → Made e (reply.Refused d.refusal) now new before after slip
          → IsDenied files sizes name whole e now new before after d
      denied_by d is m = subst (λ o. DeniedBy files sizes name whole e now new before after d.refusal o) (sym is) m

-- no room: nothing was done
pub full_denied : (name : ℕ) (table board : TableId) (files : Catalog) (sizes : Sizes) (seats : ℕ) (whole : Room) (e : Event) (old now new : HeldSeen)
    (before after : SeatSeen) (d : Denied) → Whole name table board files sizes seats whole old → old ≡ now → new ≡ old
    → d ≡ record { refusal = TrailFull; slip = None } → after ≡ record before { list = old.log.history }
    → Only (λ _. ⊥) before after → has_room_for old e ≡ false → IsDenied files sizes name whole e now new before after d
full_denied name table board files sizes seats whole e old now new before after d i same back is shown only full =
    subst (λ (x : Denied). IsDenied files sizes name whole e now new before after x) (sym is)
    (subst (λ x. DeniedBy files sizes name whole e x new before after TrailFull None) same (
      refl,
      record {
        same = back;
        shown = shown_as before after old.log.history shown only;
        sees = ap (λ (s : SeatSeen). s.list) shown;
        leaves = subst (λ (n : ℕ). After files sizes n old.log.history old.core.state) (sym i.0.name ∙ i.1.named)
            (subst (λ (x : Sizes). After files x old.core.state.name old.log.history old.core.state) i.1.sized i.0.history);
        left = i.1.room;
        full = full;
      },
    ))
