-- What a refusal for want of room says of the cache at its entry.
use Rattle.std.proofs.Common.{◌≡◌, ◌∙◌, ◌+◌, ◌<◌, ◌≤◌, [], ℕ, Bool, true, false, cond, not, length, take, refl, sym, ap, subst, arith, inl, inr}
use Rattle.std.specs.Prelude.{◌⊎◌, ◌&&◌, ◌==◌, IsTrue, Ok, Err, Result, Option, Some, None, is_some, nat_le, nat_lt}
use Rattle.std.proofs.lemmas.Bool.Decides.{nat_tests}
use Rattle.std.proofs.lemmas.List.{length_push, take-append-le, take_all}
use Rattle.std.specs.FinMap as map
use Rattle.blockdev.specs.Jobs.{Task}
use Rattle.cachecore.specs.Replies.{evicted, flush_ended}
use Rattle.cachecore.specs.Wants.{NothingToWrite}
use Rattle.cachecore.specs.declared.answers.Ended.{Ended}
use Rattle.cachecore.specs.declared.answers.Ended.TheVariants as ended
use Rattle.machine.specs.declared.event.End.{End}
use Rattle.machine.specs.declared.event.Event.{Event}
use Rattle.machine.specs.declared.event.Event.TheVariants as event
use Rattle.machine.specs.declared.event.Reply.{Reply}
use Rattle.machine.specs.declared.event.Reply.TheVariants as reply
use Rattle.machine.specs.Changes.{flush_pick}
use Rattle.machine.specs.State.{State, file_at, handle_file, is_open, touched_count}
use Rattle.errseq.proofs.Prefixes.{prefix_length}
use Rattle.machine.specs.Step.{Step}
use Rattle.machine.specs.Tests.{has_idle, is_full, is_of, read_count, read_stop, refuse, stopped, tests}
use Rattle.machine.proofs.steps.Cases.{answered}
use Rattle.pc_types.specs.Limits.{Sizes, is_geometry}
use Rattle.machine.specs.Catalogs.{Catalog}
use Rattle.pc_types.specs.declared.ids.FileId.{FileId}
use Rattle.pc_types.specs.declared.ids.HandleId.{HandleId}
use Rattle.pc_types.specs.declared.ids.PageIndex.{PageIndex}
use Rattle.pc_types.specs.declared.ids.SyncId.{SyncId}
use Rattle.pc_types.specs.declared.kind.Kind.TheVariants.{Flush}
use Rattle.pc_types.specs.declared.limits.TheConstants.{MAX_TOUCHED}
use Rattle.pc_types.specs.declared.refusal.Refusal.{Refusal}
use Rattle.pc_types.specs.declared.refusal.Refusal.TheVariants.{BadHandle, DirtyLimit, Io, NoFrame, NoSpace, NoSuchFile, Stranger, TooLong, TooManyInFlight}
use Rattle.trail.specs.declared.entry.Entry.{Entry}
use Rattle.trail.specs.Entries.{entry_of}
use Rattle.trail.specs.History.{After}
use Rattle.trail.specs.Room.{Room}
use Rattle.held.specs.declared.log.Slip.{Slip}
use Rattle.held.specs.Entered.{Made}
use Rattle.held.specs.Shown.{HeldSeen, SeatSeen}
use Rattle.held.specs.Called.{Goes, Only}
use Rattle.held.specs.Denials as under
use Rattle.cachecore.specs.Wants.{is_busy}
use Rattle.held.specs.Firsts.{IsFirstDenied, Writes}
use Rattle.held.specs.declared.denied.Denied.{Denied}
use Rattle.held.proofs.Replied.{end_taken}
use Rattle.held.proofs.Seats.{goes_same, only_by, only_on, only_same, only_wider}
use Rattle.shared.specs.Called.{is_for_now, may_pass}
use Rattle.shared.specs.Own.{IsEviction, IsRoomEvent, admitted}
use Rattle.shared.specs.Rooms.{FailsToWrite, IsAtRest, IsCrammed, IsFinal, IsFinalOr, IsLost, IsRoomLost, IsRoomTry, IsUnwritten, is_written, wants_room}
use Rattle.shared.proofs.CutRequests.{cut_busy, none_cut}
use Rattle.shared.specs.Denials.{IsFullFor}
use Rattle.shared.proofs.Making.{full_at, full_on, makes_by}
use Rattle.shared.proofs.Sparing.{IsAsked, has_to_write, stops_unrefused}

-- ---- refusals of another kind

no_file_or_full : (past full : Bool) (pick : Option ℕ) (why : Refusal)
    → cond past (refuse NoSuchFile) (cond (not (is_some pick)) (Some reply.Nothing) (cond full (refuse TooManyInFlight) None))
    ≡ Some (reply.Refused why) → wants_room why ≡ false
no_file_or_full true full pick why e =
    let is : NoSuchFile ≡ why = cc in subst (λ (x : Refusal). wants_room x ≡ false) is refl
no_file_or_full false full None why e = absurd cc
no_file_or_full false true (Some p) why e =
    let is : TooManyInFlight ≡ why = cc in subst (λ (x : Refusal). wants_room x ≡ false) is refl
no_file_or_full false false (Some p) why e = absurd cc

stranger : (here : Bool) (why : Refusal) → cond here None (refuse Stranger) ≡ Some (reply.Refused why) → wants_room why ≡ false
stranger true why e = absurd cc
stranger false why e = let is : Stranger ≡ why = cc in subst (λ (x : Refusal). wants_room x ≡ false) is refl

never_refused : (idle : Bool) (why : Refusal) → cond idle None (Some reply.NoneIdle) ≡ Some (reply.Refused why) → ⊥
never_refused true why e = cc
never_refused false why e = cc

-- what makes room is never refused for want of it
room_refused : (s new : State) (e : Event) (why : Refusal) → IsRoomEvent e → Step s e (reply.Refused why) new → wants_room why ≡ false
room_refused s new (event.End kind end) why is step =
    elim (answered (tests s (event.End kind end)) s (event.End kind end) (reply.Refused why) new step) [
      | inl a ↦ stranger (end.cache == s.name && is_of kind end (map.get s.requests end.serial.0)) why a.0
      | inr a ↦ absurd (end_taken s kind end why new step a.0)
    ]
room_refused s new (event.FlushBegin f) why is step =
    elim (answered (tests s (event.FlushBegin f)) s (event.FlushBegin f) (reply.Refused why) new step) [
      | inl a ↦ no_file_or_full (nat_le (length s.files) f.0) (is_full s) (flush_pick (file_at s f.0)) why a.0
      | inr a ↦ absurd a.1
    ]
room_refused s new event.Evict why is step =
    elim (answered (tests s event.Evict) s event.Evict (reply.Refused why) new step) [
      | inl a ↦ absurd (never_refused (has_idle s) why a.0)
      | inr a ↦ absurd a.1
    ]
room_refused s new event.Age why is step = absurd step.0
room_refused s new e why is step = absurd is

module _ (files : Catalog) (sizes : Sizes) (name : ℕ) (whole : Room) where
  pub room_unwanted : (e : Event) (old new : HeldSeen) (before after : SeatSeen) (d : Denied) → IsRoomEvent e
      → under.IsDenied files sizes name whole e old new before after d → wants_room d.refusal ≡ false
  room_unwanted e old new before after d is q = go d.refusal d.slip q
    where
      go : (r : Refusal) (o : Option Slip) → under.DeniedBy files sizes name whole e old new before after r o → wants_room r ≡ false
      go r None q = subst (λ (x : Refusal). wants_room x ≡ false) (sym q.0) refl
      go r (Some slip) q = room_refused old.core.state new.core.state e r is q.step

  pub age_unwanted : (old new : HeldSeen) (before after : SeatSeen) (d : Denied)
      → under.IsDenied files sizes name whole event.Age old new before after d → wants_room d.refusal ≡ false
  age_unwanted old new before after d q = room_unwanted event.Age old new before after d tt q

  pub evict_unwanted : (old new : HeldSeen) (before after : SeatSeen) (d : Denied)
      → under.IsDenied files sizes name whole event.Evict old new before after d → wants_room d.refusal ≡ false
  evict_unwanted old new before after d q = room_unwanted event.Evict old new before after d tt q

  pub first_unwanted : (old new : HeldSeen) (before after : SeatSeen) (d : Denied) → IsFirstDenied files sizes name whole old new before after d
      → wants_room d.refusal ≡ false
  first_unwanted old new before after d q = room_unwanted (event.FlushBegin q.file) old new before after d tt q.denied

abbrev bare : Refusal → Denied
bare r = record { refusal = r; slip = None }

-- to let a page go is refused by a full trail alone
module _ (files : Catalog) (sizes : Sizes) (name : ℕ) (whole : Room) where
  pub full_age : (old new : HeldSeen) (before after : SeatSeen) (d : Denied)
      → under.IsDenied files sizes name whole event.Age old new before after d → IsFullFor files sizes name whole IsEviction before after d
  full_age old new before after d q = go d.refusal d.slip q
    where
      go : (r : Refusal) (o : Option Slip) → under.DeniedBy files sizes name whole event.Age old new before after r o
          → IsFullFor files sizes name whole IsEviction before after (record { refusal = r; slip = o })
      go r None q = (ap bare q.0, full_at files sizes name whole IsEviction event.Age old new before after tt q.1)
      go r (Some slip) q = absurd q.step.0

  pub full_evict : (old new : HeldSeen) (a b c : SeatSeen) (d : Denied) → Goes a b
      → under.IsDenied files sizes name whole event.Evict old new b c d → IsFullFor files sizes name whole IsEviction a c d
  full_evict old new a b c d goes q = go d.refusal d.slip q
    where
      go : (r : Refusal) (o : Option Slip) → under.DeniedBy files sizes name whole event.Evict old new b c r o
          → IsFullFor files sizes name whole IsEviction a c (record { refusal = r; slip = o })
      go r None q = (
        ap bare q.0,
        full_on files sizes name whole IsEviction IsEviction a b c (λ e x. x) goes (full_at files sizes name whole IsEviction event.Evict old new b c tt q.1),
      )
      go r (Some slip) q =
          elim (answered (tests old.core.state event.Evict) old.core.state event.Evict (reply.Refused r) new.core.state q.step) [
            | inl a ↦ absurd (never_refused (has_idle old.core.state) r a.0)
            | inr a ↦ absurd a.1
          ]

-- nor is a read
read_tested : (there none long : Bool) (last : Option Reply) (why : Refusal) → (last ≡ Some (reply.Refused why) → ⊥)
    → cond (not there) (refuse BadHandle) (cond none (Some (reply.Bytes [])) (cond long (refuse TooLong) last))
    ≡ Some (reply.Refused why) → is_for_now why ≡ false
read_tested false none long last why never e =
    let is : BadHandle ≡ why = cc in subst (λ (x : Refusal). is_for_now x ≡ false) is refl
read_tested true true long last why never e = absurd cc
read_tested true false true last why never e =
    let is : TooLong ≡ why = cc in subst (λ (x : Refusal). is_for_now x ≡ false) is refl
read_tested true false false last why never e = absurd (never e)

read_refused : (s new : State) (h : HandleId) (o n : ℕ) (why : Refusal) → Step s (event.Read h o n) (reply.Refused why) new
    → is_for_now why ≡ false
read_refused s new h o n why step =
    let f = handle_file s h.0 in
    let count = read_count s f o n in
    elim (answered (tests s (event.Read h o n)) s (event.Read h o n) (reply.Refused why) new step) [
      | inl a ↦ read_tested (is_open s h.0) (count == 0) (nat_lt MAX_TOUCHED (touched_count s.sizes.page o count))
          (stopped s f (read_stop s f o count)) why (stops_unrefused s f (read_stop s f o count) why) a.0
      | inr a ↦ absurd a.1
    ]

pub wants_pass : (why : Refusal) → wants_room why ≡ true → is_for_now why ≡ true
wants_pass NoFrame e = refl
wants_pass DirtyLimit e = refl
wants_pass why e = absurd cc

unwanted_of : (why : Refusal) → is_for_now why ≡ false → wants_room why ≡ false
unwanted_of why e = by (wants_room why) refl
  where
    by : (b : Bool) → wants_room why ≡ b → b ≡ false
    by false is = refl
    by true is = let x : true ≡ false = sym (wants_pass why is) ∙ e in absurd cc

module _ (files : Catalog) (sizes : Sizes) (name : ℕ) (whole : Room) where
  pub read_lasts : (h : HandleId) (o n : ℕ) (old new : HeldSeen) (before after : SeatSeen) (d : Denied)
      → under.IsDenied files sizes name whole (event.Read h o n) old new before after d → is_for_now d.refusal ≡ false
  read_lasts h o n old new before after d q = go d.refusal d.slip q
    where
      go : (r : Refusal) (k : Option Slip) → under.DeniedBy files sizes name whole (event.Read h o n) old new before after r k → is_for_now r ≡ false
      go r None q = subst (λ (x : Refusal). is_for_now x ≡ false) (sym q.0) refl
      go r (Some slip) q = read_refused old.core.state new.core.state h o n r q.step

  pub read_unwanted : (h : HandleId) (o n : ℕ) (old new : HeldSeen) (before after : SeatSeen) (d : Denied)
      → under.IsDenied files sizes name whole (event.Read h o n) old new before after d → wants_room d.refusal ≡ false
  read_unwanted h o n old new before after d q = unwanted_of d.refusal (read_lasts h o n old new before after d q)

pub lost_unwanted : (files : Catalog) (sizes : Sizes) (name : ℕ) (after : SeatSeen) (d : Denied) → wants_room d.refusal ≡ false
    → IsLost files sizes name after d
lost_unwanted files sizes name after d other wants = absurd cc

-- ---- no page was to be written, or one was written in vain

pub failed_by : (end : End) (a : Ended) (old new : HeldSeen) (before after : SeatSeen) (slip : Slip)
    → Made (event.End Flush end) (flush_ended (Ok a)) old new before after slip → is_written a ≡ false
    → FailsToWrite before after
failed_by end (ended.Failed file code b) old new before after slip m is = record {
  at = before;
  tried = only_same (λ e. IsRoomTry e.event) before before refl;
  end = end;
  code = code;
  slip = slip;
  made = makes_by (event.End Flush end) (reply.Failed code) old new before after slip m;
  last = only_by (λ _. Unit {0}) (event.End Flush end) (reply.Failed code) old new before after slip tt m;
  one = m.entered.count;
}
failed_by end a old new before after slip m is = absurd cc

fails_on : (a b c : SeatSeen) → Only (λ e. IsRoomTry e.event) a b → FailsToWrite b c → FailsToWrite a c
fails_on a b c p q = record {
  at = q.at;
  tried = only_on (λ e. IsRoomTry e.event) a b q.at p q.tried;
  end = q.end;
  code = q.code;
  slip = q.slip;
  made = q.made;
  last = q.last;
  one = q.one;
}

evicts_try : (e : Event) → IsEviction e → IsRoomTry e
evicts_try event.Evict x = tt
evicts_try event.Age x = tt
evicts_try e x = absurd x

pub unwritten_on : (s t : State) (a b c : SeatSeen) → t ≡ s → Only (λ e. IsEviction e.event) a b → IsUnwritten t b c
    → IsUnwritten s a c
unwritten_on s t a b c same p (inl none) = inl (subst NothingToWrite same none)
unwritten_on s t a b c same p (inr fails) =
    inr (fails_on a b c (only_wider (λ e. IsEviction e.event) (λ e. IsRoomTry e.event) a b (λ e. evicts_try e.event) p) fails)

pub none_unwritten : (s : State) (a c : SeatSeen) → NothingToWrite s → IsUnwritten s a c
none_unwritten s a c none = inl none

-- the page that was begun in b was not written
pub write_unwritten : (job : Task) (slip : Slip) (old new : HeldSeen) (s : State) (a b c : SeatSeen)
    → Writes job slip old new a b → FailsToWrite b c → IsUnwritten s a c
write_unwritten job slip old new s a b c w fails =
    inr (fails_on a b c
    (only_by (λ e. IsRoomTry e.event) (event.FlushBegin w.file) (reply.Job (record { 0 = job.serial })) old new a b slip tt
    w.made) fails)

-- ---- no page is idle

none_idle : (idle : Bool) → cond idle None (Some reply.NoneIdle) ≡ Some reply.NoneIdle → idle ≡ false
none_idle true e = absurd cc
none_idle false e = refl

pub evict_none : (page : Option (FileId × PageIndex)) (n : ℕ) (x y z : HeldSeen) (a b c : SeatSeen) (first slip : Slip)
    → Made event.Age (reply.Aged n) x y a b first → Made event.Evict (evicted page) y z b c slip → is_some page ≡ false
    → (has_idle x.core.state ≡ false) × (z.core.state ≡ x.core.state)
evict_none (Some p) n x y z a b c first slip m q e = absurd cc
evict_none None n x y z a b c first slip m q e =
    let s = y.core.state in
    let aged : s ≡ x.core.state = m.step.1 in
    let idle : (has_idle s ≡ false) × (z.core.state ≡ s) =
    elim (answered (tests s event.Evict) s event.Evict reply.NoneIdle z.core.state q.step) [
      | inl k ↦ (none_idle (has_idle s) k.0, k.1)
      | inr k ↦ absurd k.1
    ] in
    (ap has_idle (sym aged) ∙ idle.0, idle.1 ∙ aged)

-- ---- the entry of the refusal

lost_by : (files : Catalog) (sizes : Sizes) (name : ℕ) (e : Event) (why : Refusal) (old new : HeldSeen) (before at after : SeatSeen) (slip : Slip)
    → IsTrue (is_geometry sizes) → IsAsked e → wants_room why ≡ true → Made e (reply.Refused why) old new before at slip
    → After files sizes name new.log.history new.core.state → IsCrammed why new.core.state → IsUnwritten new.core.state at after
    → Goes at after → IsRoomLost files sizes name why after slip
lost_by files sizes name e why old new before at after slip geometry asked wants m legal crammed unwritten goes =
    let entry : Entry = entry_of before.number e (reply.Refused why) in
    let long : length at.list ≡ slip.place + 1 =
    ap length (m.entered.sees ∙ m.entered.history) ∙ length_push old.log.history entry
    ∙ ap (λ n. n + 1) (sym m.entered.placed.1) in
    let there : take (slip.place + 1) after.list ≡ at.list =
    ap (take (slip.place + 1)) (sym goes.grows.1) ∙ take-append-le (slip.place + 1) at.list goes.grows.0 (omega (arith, long))
    ∙ take_all (slip.place + 1) at.list (omega (arith, long)) in
    let more : length at.list ≤ length after.list = prefix_length at.list after.list goes.grows in
    record {
      state = new.core.state;
      seen = omega (arith, long, more);
      leaves = subst (λ l. After files sizes name l new.core.state) (sym (there ∙ m.entered.sees)) legal;
      crammed = crammed;
      there =
          has_to_write files sizes name new.log.history old.core.state new.core.state e why geometry asked wants m.step legal crammed.0
          crammed.1;
      at = at;
      stood = sym there;
      failed = since unwritten;
    }
  where
    since : IsUnwritten new.core.state at after → FailsToWrite at after
    since (inl none) =
        absurd (has_to_write files sizes name new.log.history old.core.state new.core.state e why geometry asked wants m.step legal
        crammed.0 crammed.1 none)
    since (inr fails) = fails

module _ (whole : Room) where
  -- an event was refused, and it stands if the cache is crammed
  pub lost_denied : (files : Catalog) (sizes : Sizes) (name : ℕ) (e : Event) (old new : HeldSeen) (before at after : SeatSeen) (first d : Denied)
      → IsTrue (is_geometry sizes) → IsAsked e → under.IsDenied files sizes name whole e old new before at first
      → After files sizes name new.log.history new.core.state → Goes at after
      → (wants_room d.refusal ≡ true
      → (d ≡ first) × IsCrammed d.refusal new.core.state × IsUnwritten new.core.state at after)
      → IsLost files sizes name after d
  lost_denied files sizes name e old new before at after first d geometry asked q legal goes f = λ wants.
      let k = f wants in
      let there = go first.refusal first.slip q (subst (λ (x : Denied). wants_room x.refusal ≡ true) k.0 wants)
      (subst (λ (x : Denied). IsCrammed x.refusal new.core.state) k.0 k.1) k.2 in
      subst (λ (x : Denied). (slip : Slip) × (x.slip ≡ Some slip) × IsRoomLost files sizes name x.refusal after slip) (sym k.0)
      there
    where
      go : (r : Refusal) (o : Option Slip) → under.DeniedBy files sizes name whole e old new before at r o → wants_room r ≡ true
          → IsCrammed r new.core.state → IsUnwritten new.core.state at after
          → (slip : Slip) × (o ≡ Some slip) × IsRoomLost files sizes name r after slip
      go r None q wants crammed unwritten =
          let other : wants_room r ≡ false = subst (λ (x : Refusal). wants_room x ≡ false) (sym q.0) refl in absurd cc
      go r (Some slip) q wants crammed unwritten = (
        slip,
        refl,
        lost_by files sizes name e r old new before at after slip geometry asked wants q legal crammed unwritten goes,
      )

-- ---- no request is in flight at the entry of a refusal that may pass when one ends

-- a refusal for which a request is in flight by whose end it may pass is one of those
pub passes_now : (why : Refusal) (s : State) → may_pass why s ≡ true → is_for_now why ≡ true
passes_now NoFrame s e = refl
passes_now DirtyLimit s e = refl
passes_now TooManyInFlight s e = refl
passes_now NoSpace s e = refl
passes_now why s e = absurd cc

-- and then one is in flight
pub passes_busy : (why : Refusal) (s : State) → may_pass why s ≡ true → is_busy s ≡ true
passes_busy NoFrame s e = e
passes_busy DirtyLimit s e = e
passes_busy TooManyInFlight s e = e
passes_busy NoSpace s e = cut_busy s e
passes_busy why s e = absurd cc

-- where none is in flight no refusal passes
pub rests_still : (why : Refusal) (s : State) → is_busy s ≡ false → may_pass why s ≡ false
rests_still NoFrame s e = e
rests_still DirtyLimit s e = e
rests_still TooManyInFlight s e = e
rests_still NoSpace s e = none_cut s e
rests_still why s e = refl

-- a refusal for want of room passes by any end
pub wanting_rests : (why : Refusal) (s : State) → wants_room why ≡ true → may_pass why s ≡ false → is_busy s ≡ false
wanting_rests NoFrame s wants e = e
wanting_rests DirtyLimit s wants e = e
wanting_rests why s wants e = absurd cc

pub final_lasting : (files : Catalog) (sizes : Sizes) (name : ℕ) (after : SeatSeen) (d : Denied) → is_for_now d.refusal ≡ false
    → IsFinal files sizes name after d
final_lasting files sizes name after d lasts passes = absurd cc

-- a seat or a handle is of another cache
admitted_why : (here own : Bool) (why : Refusal) (r : Result Unit Refusal)
    → r ≡ cond here (cond own (Ok tt) (Err BadHandle)) (Err Stranger) → r ≡ Err why → (why ≡ BadHandle) ⊎ (why ≡ Stranger)
admitted_why true true why r is e = absurd cc
admitted_why true false why r is e = inl cc
admitted_why false own why r is e = inr cc

pub refused_why : (name seat handle : ℕ) (why : Refusal) → admitted name seat handle ≡ Err why
    → (why ≡ BadHandle) ⊎ (why ≡ Stranger)
refused_why name seat handle why e = admitted_why (seat == name) (handle == name) why (admitted name seat handle) refl e

admitted_here : (here : Bool) (r rest : Result Unit Refusal) → r ≡ cond here rest (Err Stranger) → r ≡ Ok tt → here ≡ true
admitted_here true r rest is e = refl
admitted_here false r rest is e = absurd cc

-- who is admitted has a seat of the cache
pub admitted_own : (name seat handle : ℕ) → admitted name seat handle ≡ Ok tt → seat ≡ name
admitted_own name seat handle e =
    let here : (seat == name) ≡ true = admitted_here (seat == name) (admitted name seat handle) (cond (handle == name) (Ok tt) (Err BadHandle)) refl e in
    grind (arith, nat_tests, here)

pub admitted_final : (files : Catalog) (sizes : Sizes) (name : ℕ) (after : SeatSeen) (own seat handle : ℕ) (why : Refusal) (d : Denied)
    → admitted own seat handle ≡ Err why → d ≡ record { refusal = why; slip = None } → IsFinal files sizes name after d
admitted_final files sizes name after own seat handle why d e is = final_lasting files sizes name after d
    (ap (λ (x : Denied). is_for_now x.refusal) is ∙ lasts (refused_why own seat handle why e))
  where
    lasts : (why ≡ BadHandle) ⊎ (why ≡ Stranger) → is_for_now why ≡ false
    lasts (inl x) = ap is_for_now x
    lasts (inr x) = ap is_for_now x

-- an end is refused a stranger alone; to age and to evict are not refused
stranger_lasts : (here : Bool) (why : Refusal) → cond here None (refuse Stranger) ≡ Some (reply.Refused why)
    → is_for_now why ≡ false
stranger_lasts true why e = absurd cc
stranger_lasts false why e = let is : Stranger ≡ why = cc in subst (λ (x : Refusal). is_for_now x ≡ false) is refl

-- nor does one pass that is of a failed device call
pub io_unwanted : (code : ℕ) (d : Denied) → d.refusal ≡ Io code → wants_room d.refusal ≡ false
io_unwanted code d is = ap wants_room is

pub io_final : (files : Catalog) (sizes : Sizes) (name : ℕ) (after : SeatSeen) (code : ℕ) (d : Denied) → d.refusal ≡ Io code
    → IsFinal files sizes name after d
io_final files sizes name after code d is = final_lasting files sizes name after d (ap is_for_now is)

module _ (whole : Room) where
  pub age_final : (files : Catalog) (sizes : Sizes) (name : ℕ) (old new : HeldSeen) (before after : SeatSeen) (d : Denied)
      → under.IsDenied files sizes name whole event.Age old new before after d → IsFinal files sizes name after d
  age_final files sizes name old new before after d q = final_lasting files sizes name after d (go d.refusal d.slip q)
    where
      go : (r : Refusal) (o : Option Slip) → under.DeniedBy files sizes name whole event.Age old new before after r o → is_for_now r ≡ false
      go r None q = subst (λ (x : Refusal). is_for_now x ≡ false) (sym q.0) refl
      go r (Some slip) q = absurd q.step.0

  pub evict_final : (files : Catalog) (sizes : Sizes) (name : ℕ) (old new : HeldSeen) (before after : SeatSeen) (d : Denied)
      → under.IsDenied files sizes name whole event.Evict old new before after d → IsFinal files sizes name after d
  evict_final files sizes name old new before after d q = final_lasting files sizes name after d (go d.refusal d.slip q)
    where
      go : (r : Refusal) (o : Option Slip) → under.DeniedBy files sizes name whole event.Evict old new before after r o → is_for_now r ≡ false
      go r None q = subst (λ (x : Refusal). is_for_now x ≡ false) (sym q.0) refl
      go r (Some slip) q =
          elim (answered (tests old.core.state event.Evict) old.core.state event.Evict (reply.Refused r) new.core.state q.step) [
            | inl a ↦ absurd (never_refused (has_idle old.core.state) r a.0)
            | inr a ↦ absurd a.1
          ]

  -- nor does the end of a request lift the refusal of a read
  pub read_final : (files : Catalog) (sizes : Sizes) (name : ℕ) (h : HandleId) (o n : ℕ) (old new : HeldSeen) (before after : SeatSeen) (d : Denied)
      → under.IsDenied files sizes name whole (event.Read h o n) old new before after d → IsFinal files sizes name after d
  read_final files sizes name h o n old new before after d q =
      final_lasting files sizes name after d (read_lasts files sizes name whole h o n old new before after d q)

at_rest : (files : Catalog) (sizes : Sizes) (name : ℕ) (e : Event) (why : Refusal) (old new : HeldSeen) (before at after : SeatSeen) (slip : Slip)
    → Made e (reply.Refused why) old new before at slip → After files sizes name new.log.history new.core.state
    → may_pass why new.core.state ≡ false → Goes at after → IsAtRest files sizes name why after slip
at_rest files sizes name e why old new before at after slip m legal rests goes =
    let entry : Entry = entry_of before.number e (reply.Refused why) in
    let long : length at.list ≡ slip.place + 1 =
    ap length (m.entered.sees ∙ m.entered.history) ∙ length_push old.log.history entry
    ∙ ap (λ n. n + 1) (sym m.entered.placed.1) in
    let there : take (slip.place + 1) after.list ≡ at.list =
    ap (take (slip.place + 1)) (sym goes.grows.1) ∙ take-append-le (slip.place + 1) at.list goes.grows.0 (omega (arith, long))
    ∙ take_all (slip.place + 1) at.list (omega (arith, long)) in
    let more : length at.list ≤ length after.list = prefix_length at.list after.list goes.grows in
    record {
      state = new.core.state;
      seen = omega (arith, long, more);
      leaves = subst (λ l. After files sizes name l new.core.state) (sym (there ∙ m.entered.sees)) legal;
      rests = rests;
    }

module _ (whole : Room) where
  -- an event was refused, and that stands if no request is in flight
  pub final_denied : (files : Catalog) (sizes : Sizes) (name : ℕ) (e : Event) (old new : HeldSeen) (before at after : SeatSeen) (first d : Denied)
      → under.IsDenied files sizes name whole e old new before at first → After files sizes name new.log.history new.core.state → Goes at after
      → IsFinalOr first files sizes name new.core.state after d → IsFinal files sizes name after d
  final_denied files sizes name e old new before at after first d q legal goes (inr final) = final
  final_denied files sizes name e old new before at after first d q legal goes (inl k) = λ passes.
      let there = go first.refusal first.slip q (subst (λ (x : Denied). is_for_now x.refusal ≡ true) k.0 passes) k.1 in
      subst (λ (x : Denied). (slip : Slip) × (x.slip ≡ Some slip) × IsAtRest files sizes name x.refusal after slip) (sym k.0) there
    where
      go : (r : Refusal) (o : Option Slip) → under.DeniedBy files sizes name whole e old new before at r o → is_for_now r ≡ true
          → may_pass r new.core.state ≡ false → (slip : Slip) × (o ≡ Some slip) × IsAtRest files sizes name r after slip
      go r None q passes rests =
          let other : is_for_now r ≡ false = subst (λ (x : Refusal). is_for_now x ≡ false) (sym q.0) refl in absurd cc
      go r (Some slip) q passes rests = (
        slip,
        refl,
        at_rest files sizes name e r old new before at after slip q legal rests goes,
      )

  -- an event was refused, in the hold that says whether a request is in flight
  still_final : (files : Catalog) (sizes : Sizes) (name : ℕ) (e : Event) (old new : HeldSeen) (before at : SeatSeen) (first d : Denied)
      → under.IsDenied files sizes name whole e old new before at first → After files sizes name new.log.history new.core.state → d ≡ first
      → may_pass first.refusal new.core.state ≡ false → IsFinal files sizes name at d
  still_final files sizes name e old new before at first d q legal same rests =
      final_denied files sizes name e old new before at at first d q legal (goes_same at at refl)
      (inl (same, rests))

  -- of the first file to write
  pub first_final : (files : Catalog) (sizes : Sizes) (name : ℕ) (old new : HeldSeen) (before at : SeatSeen) (first d : Denied)
      → IsFirstDenied files sizes name whole old new before at first → After files sizes name new.log.history new.core.state → d ≡ first
      → may_pass first.refusal new.core.state ≡ false → IsFinal files sizes name at d
  first_final files sizes name old new before at first d q legal same rests =
      still_final files sizes name (event.FlushBegin q.file) old new before at first d q.denied legal same rests

  -- and of a sync's step
  pub step_final : (files : Catalog) (sizes : Sizes) (name : ℕ) (m : SyncId) (old new : HeldSeen) (before at : SeatSeen) (first d : Denied)
      → under.IsDenied files sizes name whole (event.SyncStep m) old new before at first → After files sizes name new.log.history new.core.state → d ≡ first
      → may_pass first.refusal new.core.state ≡ false → IsFinal files sizes name at d
  step_final files sizes name m old new before at first d q legal same rests =
      still_final files sizes name (event.SyncStep m) old new before at first d q legal same rests

-- the seat saw more since
pub final_on : (files : Catalog) (sizes : Sizes) (name : ℕ) (at after : SeatSeen) (d : Denied) → Goes at after → IsFinal files sizes name at d
    → IsFinal files sizes name after d
final_on files sizes name at after d goes final passes = let k = final passes in (k.0, k.1, rests k.0 k.2)
  where
    rests : (slip : Slip) → IsAtRest files sizes name d.refusal at slip → IsAtRest files sizes name d.refusal after slip
    rests slip r =
        let seen : slip.place < length at.list = r.seen in
        let there : take (slip.place + 1) after.list ≡ take (slip.place + 1) at.list =
        ap (take (slip.place + 1)) (sym goes.grows.1) ∙ take-append-le (slip.place + 1) at.list goes.grows.0 (omega arith) in
        let more : length at.list ≤ length after.list = prefix_length at.list after.list goes.grows in
        record {
          state = r.state;
          seen = omega arith;
          leaves = subst (λ l. After files sizes name l r.state) (sym there) r.leaves;
          rests = r.rests;
        }

pub stands_by : (files : Catalog) (sizes : Sizes) (name : ℕ) (s : State) (after : SeatSeen) (first d : Denied) → d ≡ first
    → may_pass first.refusal s ≡ false → IsFinalOr first files sizes name s after d
stands_by files sizes name s after first d same rests = inl (same, rests)

pub stands_still : (files : Catalog) (sizes : Sizes) (name : ℕ) (s : State) (after : SeatSeen) (first : Denied) → is_busy s ≡ false
    → IsFinalOr first files sizes name s after first
stands_still files sizes name s after first rests = inl (refl, rests_still first.refusal s rests)

pub stands_other : (files : Catalog) (sizes : Sizes) (name : ℕ) (s : State) (after : SeatSeen) (first d : Denied) → IsFinal files sizes name after d
    → IsFinalOr first files sizes name s after d
stands_other files sizes name s after first d final = inr final
