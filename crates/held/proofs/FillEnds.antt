-- The end of a fill: its entry, with the bytes that were read.
use Rattle.std.proofs.Common.{◌≡◌, ℕ, ◌≤◌, Bool, true, false, cond, List, [], length, refl, ap, sym, subst, ◌∙◌, arith}
use Rattle.std.proofs.Common.{inl, inr}
use Rattle.std.specs.Prelude.{is_some, Result, Ok, Err, if◌then◌else◌}
use Rattle.pc_types.specs.declared.kind.Kind.{Kind}
use Rattle.pc_types.specs.declared.kind.Kind.TheVariants.{Fill, Flush}
use Rattle.blockdev.specs.Device as device
use Rattle.blockdev.specs.Jobs.{FinishedTask}
use Rattle.cachecore.specs.declared.answers.Ended.{Ended}
use Rattle.cachecore.specs.declared.answers.Ended.TheVariants as ended
use Rattle.cachecore.specs.declared.answers.RefusedEnd.{RefusedEnd}
use Rattle.cachecore.specs.Replies.{EndGivesBack, end_of, fill_ended, outcome_of}
use Rattle.machine.specs.declared.event.End.{End}
use Rattle.machine.specs.declared.event.Event.TheVariants as event
use Rattle.machine.specs.declared.event.Outcome.TheVariants as outcome
use Rattle.machine.specs.declared.event.Reply.{Reply}
use Rattle.machine.specs.ListChanges.{lists_after}
use Rattle.machine.specs.State.{State}
use Rattle.atomic_table.specs.Seated.{TableId}
use Rattle.pc_types.specs.Limits.{Sizes}
use Rattle.machine.specs.Catalogs.{Catalog}
use Rattle.machine.specs.Step.{Step}
use Rattle.machine.specs.Tests.{fits, tests}
use Rattle.trail.specs.Entries.{entry_with, reply_with, end_with, outcome_with, noted}
use Rattle.trail.specs.Room.{Room, entry_room, has_room, less, need_of_end, reserved}
use Rattle.held.specs.declared.log.Slip.{Slip}
use Rattle.held.specs.Ends.{bytes_read_in, went_well}
use Rattle.held.specs.Entered.{Entered, Made}
use Rattle.held.specs.Shown.{HeldSeen, SeatSeen}
use Rattle.held.proofs.Ends.{end_needs, taken, twice}
use Rattle.held.proofs.Holds.{Whole, went}
use Rattle.held.proofs.Sizes.{Fitting, fill_in}

-- ---- the entry

-- what fits a fill is the same with its bytes put back
again : (k : Kind) (o : device.Outcome) (bytes b : List ℕ) (read : Bool) → b ≡ bytes → read ≡ went_well o
    → fits Fill (outcome_of k o bytes) ≡ true
    → outcome_with (outcome_with (outcome_of k o bytes) []) (if read then b else []) ≡ outcome_of k o bytes
again Fill (Ok u) bytes b true e k fit = ap outcome.Read e
again Fill (Ok u) bytes b false e k fit = absurd cc
again Fill (Err c) bytes b read e k fit = refl
again Flush (Ok u) bytes b read e k fit = absurd cc
again Flush (Err c) bytes b read e k fit = refl

fill_event : (f : FinishedTask) (a : Result Ended RefusedEnd) (read : Bool) → EndGivesBack f a
    → read ≡ went_well f.outcome → Fitting f a
    → event.End Fill (end_with (end_with (end_of f) []) (bytes_read_in a read))
    ≡ noted (event.End Fill (end_of f)) (fill_ended a)
fill_event f (Ok (ended.Dropped b)) read back is fit i = event.End Fill (record (end_of f) {
  outcome = again f.kind f.outcome f.bytes b read back is (fit (ended.Dropped b) refl) i;
})
fill_event f (Ok (ended.Failed file code b)) read back is fit i = event.End Fill (record (end_of f) {
  outcome = again f.kind f.outcome f.bytes b read back is (fit (ended.Failed file code b) refl) i;
})
fill_event f (Ok (ended.Done b)) read back is fit i = event.End Fill (record (end_of f) {
  outcome = again f.kind f.outcome f.bytes b read back is (fit (ended.Done b) refl) i;
})
fill_event f (Err x) true back is fit i =
    event.End Fill (record (end_of f) { outcome = twice (outcome_of f.kind f.outcome f.bytes) i })
fill_event f (Err x) false back is fit i =
    event.End Fill (record (end_of f) { outcome = twice (outcome_of f.kind f.outcome f.bytes) i })

bare_reply : (a : Result Ended RefusedEnd) (b : List ℕ) → reply_with (fill_ended a) b ≡ fill_ended a
bare_reply (Ok (ended.Dropped x)) b = refl
bare_reply (Ok (ended.Failed file code x)) b = refl
bare_reply (Ok (ended.Done x)) b = refl
bare_reply (Err e) b = refl

-- ---- room

read_size : (f : FinishedTask) (a : Result Ended RefusedEnd) (read : Bool) (page : ℕ) → EndGivesBack f a
    → length f.bytes ≡ page → length (bytes_read_in a read) ≤ page
read_size f a false page back size = omega arith
read_size f (Ok (ended.Dropped b)) true page back size = let e : length b ≡ page = ap length back ∙ size in omega arith
read_size f (Ok (ended.Failed file code b)) true page back size = let e : length b ≡ page = ap length back ∙ size in
    omega arith
read_size f (Ok (ended.Done b)) true page back size = let e : length b ≡ page = ap length back ∙ size in omega arith
read_size f (Err x) true page back size = omega arith

none_read : (a : Result Ended RefusedEnd) (read : Bool) (x : RefusedEnd) → a ≡ Err x
    → length (bytes_read_in a read) ≤ 0
none_read a read x is = subst (λ y. length (bytes_read_in y read) ≤ 0) (sym is) (go read)
  where
    go : (r : Bool) → length (bytes_read_in (Err x) r) ≤ 0
    go true = omega arith
    go false = omega arith

-- an end that needs no entry of its own has room for a page
whole_page : (s : State) (e : End) → need_of_end (tests s (event.End Fill e)) ≡ 0
    → entry_room s (event.End Fill e) ≡ s.sizes.page
whole_page s e none = go (is_some (tests s (event.End Fill e))) none
  where
    go : (b : Bool) → cond {A = ℕ} b 1 0 ≡ 0 → cond {A = ℕ} b 0 s.sizes.page ≡ s.sizes.page
    go true k = absurd (omega (arith, k))
    go false k = refl

pub fill_small : (s : State) (f : FinishedTask) (a : Result Ended RefusedEnd) (new : State) (read : Bool)
    (bytes : List ℕ) → Step s (event.End Fill (end_of f)) (fill_ended a) new → bytes ≡ bytes_read_in a read
    → EndGivesBack f a → length f.bytes ≡ s.sizes.page → length bytes ≤ entry_room s (event.End Fill (end_of f))
fill_small s f a new read bytes h got back size =
    subst (λ b. length b ≤ entry_room s (event.End Fill (end_of f))) (sym got)
    (elim (end_needs s Fill (end_of f) a new h) [
      | inl n ↦ subst (λ n. length (bytes_read_in a read) ≤ n) (sym (whole_page s (end_of f) n.0))
          (read_size f a read s.sizes.page back size)
      | inr n ↦ least (length (bytes_read_in a read)) (entry_room s (event.End Fill (end_of f)))
          (none_read a read n.1.0 n.1.1)
    ])
  where
    least : (n m : ℕ) → n ≤ 0 → n ≤ m
    least n m h = omega arith

module _ (name : ℕ) (table board : TableId) (files : Catalog) (sizes : Sizes) (seats : ℕ) (whole : Room) (old new : HeldSeen) (before after : SeatSeen)
    (slip : Slip) (i : Whole name table board files sizes seats whole old) where
  pub fill_end_went : (f : FinishedTask) (without : End) (a : Result Ended RefusedEnd) (r : Reply) (read : Bool)
      (bytes : List ℕ) → bytes ≡ bytes_read_in a read → read ≡ went_well f.outcome → EndGivesBack f a
      → length f.bytes ≡ old.core.state.sizes.page
      → has_room old.log.room (reserved old.core.state) old.core.state (event.End Fill (end_of f)) ≡ true
      → without ≡ end_with (end_of f) []
      → Step old.core.state (event.End Fill (end_of f)) (fill_ended a) new.core.state
      → new.core.lists ≡ lists_after old.core.state (event.End Fill (end_of f)) (fill_ended a) old.core.lists
      → r ≡ fill_ended a
      → Entered (entry_with (record { seat = before.number; event = event.End Fill without; reply = r }) bytes) old.log
      new.log before after slip
      → new.log.room ≡ less old.log.room (length bytes) → new.errors ≡ old.errors
      → Made (event.End Fill (end_of f)) (fill_ended a) old new before after slip × Whole name table board files sizes seats whole new
  fill_end_went f without a r read bytes got well back size has none s lists is entered room errors =
      let fit : Fitting f a = taken old.core.state Fill (end_of f) a new.core.state s in
      let is_event : event.End Fill (end_with without bytes) ≡ noted (event.End Fill (end_of f)) (fill_ended a) =
      (λ j. event.End Fill (end_with (none j) (got j))) ∙ fill_event f a read back well fit in
      let replies : reply_with r bytes ≡ fill_ended a = (λ j. reply_with (is j) bytes) ∙ bare_reply a bytes in
      went name table board files sizes seats whole old new before after slip i (event.End Fill (end_of f)) (fill_ended a) _
      (length bytes) has (fill_small old.core.state f a new.core.state read bytes s got back size)
      (λ j. record { seat = before.number; event = is_event j; reply = replies j })
      (fill_in before.number f a read bytes got back well fit) s lists entered room errors
