-- The ends of requests: what is known of their steps, their entries without bytes, and what is recorded.
use Rattle.std.proofs.Common.{◌≡◌, ℕ, cond, Bool, true, false, [], refl, ap, sym, subst, ◌∙◌, arith, inl, inr}
use Rattle.std.specs.Prelude.{◌⊎◌, Option, Some, None, Result, Ok, Err, is_err, is_some}
use Rattle.pc_types.specs.declared.kind.Kind.{Kind}
use Rattle.pc_types.specs.declared.kind.Kind.TheVariants.{Fill, Flush}
use Rattle.pc_types.specs.declared.refusal.Refusal.{Refusal}
use Rattle.pc_types.specs.declared.refusal.Refusal.TheVariants.{Stranger}
use Rattle.cachecore.specs.Core.{Core}
use Rattle.cachecore.proofs.EndNames.{flush_named}
use Rattle.cachecore.specs.Replies.{NamesFile, fill_ended, flush_ended}
use Rattle.cachecore.specs.declared.answers.Ended.{Ended}
use Rattle.cachecore.specs.declared.answers.Ended.TheVariants as ended
use Rattle.cachecore.specs.declared.answers.RefusedEnd.{RefusedEnd}
use Rattle.machine.specs.declared.event.End.{End}
use Rattle.machine.specs.declared.event.Event.{Event}
use Rattle.machine.specs.declared.event.Event.TheVariants as event
use Rattle.machine.specs.declared.event.Outcome.{Outcome}
use Rattle.machine.specs.declared.event.Outcome.TheVariants as outcome
use Rattle.machine.specs.declared.event.Reply.{Reply}
use Rattle.machine.specs.declared.event.Reply.TheVariants as reply
use Rattle.machine.specs.ListChanges.{lists_after}
use Rattle.machine.specs.State.{State}
use Rattle.atomic_table.specs.Seated.{TableId}
use Rattle.pc_types.specs.Limits.{Sizes}
use Rattle.machine.specs.Catalogs.{Catalog}
use Rattle.machine.specs.Step.{Step}
use Rattle.machine.specs.Tests.{fits}
use Rattle.machine.proofs.steps.Answered.{is_quiet}
use Rattle.machine.proofs.steps.Ends.{end_loud, of_end}
use Rattle.errboard.specs.Shown.{RecorderSeen, ReceiptSeen}
use Rattle.trail.specs.declared.entry.Entry.{Entry}
use Rattle.trail.specs.Entries.{entry_of, entry_with, noted, reply_with, end_with, outcome_with}
use Rattle.trail.specs.Room.{Room, byte_need, event_need, fits_beside, has_room, less, need_of_end, reserved}
use Rattle.held.specs.declared.log.Slip.{Slip}
use Rattle.held.specs.Ends.{IsRecorded, ended_as}
use Rattle.held.specs.Entered.{Entered, Made, Records}
use Rattle.held.specs.Kept.{IsHeld}
use Rattle.held.specs.Shown.{HeldSeen, LogSeen, SeatSeen}
use Rattle.held.proofs.Holds.{Whole, went, end_room, none_needed, room_is}
use Rattle.held.proofs.Sizes.{none_in}

-- ---- the step

-- one that went through is no refusal
went_through : (kind : Kind) (b : Ended) (why : Refusal) → ended_as kind (Ok b) ≡ reply.Refused why → ⊥
went_through Fill (ended.Dropped b) why e = absurd cc
went_through Fill (ended.Failed file c b) why e = absurd cc
went_through Fill (ended.Done b) why e = absurd cc
went_through Flush (ended.Dropped b) why e = absurd cc
went_through Flush (ended.Failed file c b) why e = absurd cc
went_through Flush (ended.Done b) why e = absurd cc

refused_quiet : (kind : Kind) (x : RefusedEnd) → is_quiet (ended_as kind (Err x)) ≡ true
refused_quiet Fill x = refl
refused_quiet Flush x = refl

pub refused_reply : (kind : Kind) (x : RefusedEnd) → ended_as kind (Err x) ≡ reply.Refused x.refusal
refused_reply Fill x = refl
refused_reply Flush x = refl

is_refused : (kind : Kind) (a : Result Ended RefusedEnd) → ended_as kind a ≡ reply.Refused Stranger
    → (x : RefusedEnd) × (a ≡ Err x)
is_refused kind (Ok b) e = absurd (went_through kind b Stranger e)
is_refused kind (Err x) e = (x, refl)

-- a refused end leaves the core
pub end_refused : (s : State) (kind : Kind) (e : End) (why : Refusal) (new : State)
    → Step s (event.End kind e) (reply.Refused why) new → new ≡ s
end_refused s kind e why new h = elim (of_end s kind e (reply.Refused why) new h) [
  | inl a ↦ a.2
  | inr a ↦ absurd (let k : true ≡ false = end_loud (Some a.x) e.outcome (reply.Refused why) a.reply in cc)
]

-- and with it the page lists: the whole core is as before
pub core_back : (old new : Core) (kind : Kind) (e : End) (why : Refusal)
    → Step old.state (event.End kind e) (reply.Refused why) new.state → new.lists ≡ old.lists → new ≡ old
core_back old new kind e why h l =
    let k = end_refused old.state kind e why new.state h in (λ i. record { state = k i; lists = l i })

-- the outcome of one that went through fits
pub taken : (s : State) (kind : Kind) (e : End) (a : Result Ended RefusedEnd) (new : State)
    → Step s (event.End kind e) (ended_as kind a) new → (b : Ended) → a ≡ Ok b → fits kind e.outcome ≡ true
taken s kind e a new h b is = elim (of_end s kind e (ended_as kind a) new h) [
  | inl x ↦ absurd (went_through kind b Stranger (ap (ended_as kind) (sym is) ∙ x.1))
  | inr x ↦ x.may.fitting
]

-- what an end needs: nothing where its request is in flight, else an entry, and it is refused then
abbrev pub EndNeeds : ℕ → Result Ended RefusedEnd → Type 0
EndNeeds need a =
    ((need ≡ 0) × ((x : RefusedEnd) → a ≡ Err x → ⊥)) ⊎ ((need ≡ 1) × ((x : RefusedEnd) × (a ≡ Err x)))

pub end_needs : (s : State) (kind : Kind) (e : End) (a : Result Ended RefusedEnd) (new : State)
    → Step s (event.End kind e) (ended_as kind a) new → EndNeeds (event_need s (event.End kind e)) a
end_needs s kind e a new h = elim (of_end s kind e (ended_as kind a) new h) [
  | inl x ↦ inr (ap need_of_end x.0, is_refused kind a x.1)
  | inr x ↦ inl (
    ap need_of_end x.untested,
    λ y is.
        (let k : true ≡ false = sym (refused_quiet kind y) ∙ ap (λ b. is_quiet (ended_as kind b)) (sym is)
        ∙ end_loud (Some x.x) e.outcome (ended_as kind a) x.reply in cc),
  )
]

-- an end that needs nothing isn't refused
pub none_refused : (need : ℕ) (a : Result Ended RefusedEnd) → EndNeeds need a → need ≡ 0 → (x : RefusedEnd)
    → a ≡ Err x → ⊥
none_refused need a h none x is = elim h [
  | inl n ↦ n.1 x is
  | inr n ↦ absurd (let k : need ≡ 1 = n.0 in omega arith)
]

-- so there is room for it, but where it is refused without room
module _ {files : Catalog} (old : LogSeen) (core : State) (i : IsHeld files old core) (e : Event) (a : Result Ended RefusedEnd)
    (bytes : byte_need core e ≡ 0) (needs : EndNeeds (event_need core e) a) where
  pub end_has_room : (room : Bool) → room ≡ fits_beside old.room core.sizes.page (reserved core) 1 0
      → ((x : RefusedEnd) → a ≡ Err x → room ≡ true) → has_room old.room (reserved core) core e ≡ true
  end_has_room room is kept = end_room old core e i bytes (elim needs [
    | inl n ↦ inl n.0
    | inr n ↦ inr (n.0, sym is ∙ kept n.1.0 n.1.1)
  ])

  pub end_is_full : (room : Bool) → room ≡ fits_beside old.room core.sizes.page (reserved core) 1 0 → (x : RefusedEnd)
      → a ≡ Err x → room ≡ false → has_room old.room (reserved core) core e ≡ false
  end_is_full room is x err none = elim needs [
    | inl n ↦ absurd (n.1 x err)
    | inr n ↦ sym (room_is old core 1 0 e room is n.0 bytes) ∙ none
  ]

-- an end that was refused found room for its entry, or was refused by a full trail
pub room_if_refused : {A E : Type 0} (a : Result A E) (refused room : Bool) → refused ≡ is_err a
    → (refused ≡ true → room ≡ true) → (x : E) → a ≡ Err x → room ≡ true
room_if_refused a refused room is kept x err = kept (is ∙ ap is_err err)

pub refused_by : {A E : Type 0} (a : Result A E) (refused : Bool) → refused ≡ is_err a → refused ≡ true
    → (x : E) × (a ≡ Err x)
refused_by (Ok y) refused is said = absurd (let e : true ≡ false = sym said ∙ is in cc)
refused_by (Err x) refused is said = (x, refl)

-- so there is room for an end past that test
pub end_fits : {files : Catalog} (old : LogSeen) (core : State) (i : IsHeld files old core) (kind : Kind) (e : End) (a : Result Ended RefusedEnd)
    (new : State) → Step core (event.End kind e) (ended_as kind a) new → byte_need core (event.End kind e) ≡ 0
    → (refused room : Bool) → room ≡ fits_beside old.room core.sizes.page (reserved core) 1 0 → refused ≡ is_err a
    → (refused ≡ true → room ≡ true) → has_room old.room (reserved core) core (event.End kind e) ≡ true
end_fits old core i kind e a new step bytes refused room is err kept =
    end_has_room old core i (event.End kind e) a bytes (end_needs core kind e a new step) room is
    (room_if_refused a refused room err kept)

-- which leaves the core
pub fill_back : (old new : Core) (e : End) (a : Result Ended RefusedEnd)
    → Step old.state (event.End Fill e) (fill_ended a) new.state
    → new.lists ≡ lists_after old.state (event.End Fill e) (fill_ended a) old.lists → (x : RefusedEnd) → a ≡ Err x
    → new ≡ old
fill_back old new e a step lists x is =
    core_back old new Fill e x.refusal (subst (λ b. Step old.state (event.End Fill e) (fill_ended b) new.state) is step)
    (subst (λ b. new.lists ≡ lists_after old.state (event.End Fill e) (fill_ended b) old.lists) is lists)

pub flush_back : (old new : Core) (e : End) (a : Result Ended RefusedEnd)
    → Step old.state (event.End Flush e) (flush_ended a) new.state → new.lists ≡ old.lists → (x : RefusedEnd)
    → a ≡ Err x → new ≡ old
flush_back old new e a step lists x is =
    core_back old new Flush e x.refusal
    (subst (λ b. Step old.state (event.End Flush e) (flush_ended b) new.state) is step) lists

-- ---- the entry of a flush's end, which has no bytes

pub twice : (o : Outcome) → outcome_with (outcome_with o []) [] ≡ outcome_with o []
twice (outcome.Read b) = refl
twice (outcome.Fault c) = refl
twice outcome.Written = refl

written_bare : (o : Outcome) → fits Flush o ≡ true → outcome_with (outcome_with o []) [] ≡ o
written_bare (outcome.Read b) e = absurd cc
written_bare (outcome.Fault c) e = refl
written_bare outcome.Written e = refl

bare_reply : (a : Result Ended RefusedEnd) → reply_with (flush_ended a) [] ≡ flush_ended a
bare_reply (Ok (ended.Dropped b)) = refl
bare_reply (Ok (ended.Failed file code b)) = refl
bare_reply (Ok (ended.Done b)) = refl
bare_reply (Err e) = refl

flush_event : (e : End) (a : Result Ended RefusedEnd) → ((b : Ended) → a ≡ Ok b → fits Flush e.outcome ≡ true)
    → event.End Flush (end_with (end_with e []) []) ≡ noted (event.End Flush e) (flush_ended a)
flush_event e (Ok (ended.Dropped b)) fit i =
    event.End Flush (record e { outcome = written_bare e.outcome (fit (ended.Dropped b) refl) i })
flush_event e (Ok (ended.Failed file c b)) fit i =
    event.End Flush (record e { outcome = written_bare e.outcome (fit (ended.Failed file c b) refl) i })
flush_event e (Ok (ended.Done b)) fit i =
    event.End Flush (record e { outcome = written_bare e.outcome (fit (ended.Done b) refl) i })
flush_event e (Err x) fit i = event.End Flush (record e { outcome = twice e.outcome i })

module _ (name : ℕ) (table board : TableId) (files : Catalog) (sizes : Sizes) (seats : ℕ) (whole : Room) (old new : HeldSeen) (before after : SeatSeen)
    (slip : Slip) (i : Whole name table board files sizes seats whole old) where
  pub flush_end_went : (e without : End) (a : Result Ended RefusedEnd) (r : Reply)
      → has_room old.log.room (reserved old.core.state) old.core.state (event.End Flush e) ≡ true → without ≡ end_with e []
      → Step old.core.state (event.End Flush e) (flush_ended a) new.core.state
      → new.core.lists ≡ lists_after old.core.state (event.End Flush e) (flush_ended a) old.core.lists → r ≡ flush_ended a
      → Entered (entry_with (record { seat = before.number; event = event.End Flush without; reply = r }) []) old.log new.log
      before after slip → new.log.room ≡ less old.log.room 0
      → Records old.core.state (event.End Flush e) (flush_ended a) old.errors new.errors
      → Made (event.End Flush e) (flush_ended a) old new before after slip × Whole name table board files sizes seats whole new
  flush_end_went e without a r has none s lists is entered room errors =
      let entry : Entry = record { seat = before.number; event = event.End Flush without; reply = r } in
      let same : entry_with entry [] ≡ entry_of before.number (event.End Flush e) (flush_ended a) = (λ j. record {
        seat = before.number;
        event = (ap (λ x. event.End Flush (end_with x [])) none
            ∙ flush_event e a (taken old.core.state Flush e a new.core.state s)) j;
        reply = (ap (λ x. reply_with x []) is ∙ bare_reply a) j;
      }) in
      went name table board files sizes seats whole old new before after slip i (event.End Flush e) (flush_ended a) _ 0 has
      (none_needed _) same (none_in entry _ same) s lists entered room errors

-- ---- what is recorded

pub records : (s : State) (e : End) (a : Result Ended RefusedEnd) (receipt : Option ReceiptSeen)
    (old new : RecorderSeen) → NamesFile s Flush e.serial.0 a → IsRecorded old a receipt new
    → Records s (event.End Flush e) (flush_ended a) old new
records s e (Ok (ended.Failed file code b)) (Some x) old new n h = (file.0, flush_named s e.serial.0 file code b n, h.0, h.1)
records s e (Ok (ended.Failed file code b)) None old new n h = absurd h
records s e (Ok (ended.Dropped b)) None old new n h = h
records s e (Ok (ended.Dropped b)) (Some k) old new n h = absurd h
records s e (Ok (ended.Done b)) None old new n h = h
records s e (Ok (ended.Done b)) (Some k) old new n h = absurd h
records s e (Err x) None old new n h = h
records s e (Err x) (Some k) old new n h = absurd h
