-- What a call's seat made meanwhile: the call's own events alone.
use Rattle.std.proofs.Common.{◌≡◌, ℕ, ◌+◌, ◌≤◌, List, [], refl, sym, ap, arith, subst, ◌∙◌, inl, inr}
use Rattle.std.specs.Prelude.{Ok, Option, Some, None}
use Rattle.blockdev.specs.Jobs.{Task}
use Rattle.cachecore.specs.Replies.{sync_stepped}
use Rattle.cachecore.specs.declared.answers.SyncStepped.{SyncStepped}
use Rattle.cachecore.specs.declared.answers.SyncStepped.TheVariants as stepped
use Rattle.machine.specs.declared.event.End.{End}
use Rattle.machine.specs.declared.event.Event.{Event}
use Rattle.machine.specs.declared.event.Event.TheVariants as event
use Rattle.machine.specs.declared.event.Reply.{Reply}
use Rattle.machine.specs.declared.event.Reply.TheVariants as reply
use Rattle.pc_types.specs.declared.ids.BlockNo.{BlockNo}
use Rattle.pc_types.specs.declared.ids.HandleId.{HandleId}
use Rattle.pc_types.specs.declared.ids.PageIndex.{PageIndex}
use Rattle.pc_types.specs.declared.ids.Serial.{Serial}
use Rattle.pc_types.specs.declared.ids.SyncId.{SyncId}
use Rattle.pc_types.specs.declared.kind.Kind.{Kind}
use Rattle.pc_types.specs.declared.kind.Kind.TheVariants.{Fill, Flush}
use Rattle.pc_types.specs.declared.refusal.Refusal.{Refusal}
use Rattle.trail.specs.declared.entry.Entry.{Entry}
use Rattle.trail.specs.Entries.{end_with, entry_of, noted}
use Rattle.pc_types.specs.Limits.{Sizes}
use Rattle.machine.specs.Catalogs.{Catalog}
use Rattle.trail.specs.Room.{Room}
use Rattle.held.specs.declared.log.Slip.{Slip}
use Rattle.held.specs.Entered.{Made}
use Rattle.held.specs.Shown.{HeldSeen, SeatSeen}
use Rattle.held.specs.Called.{Once, Only}
use Rattle.held.specs.Denials as under
use Rattle.held.specs.Firsts.{IsFirstDenied, Writes}
use Rattle.held.specs.declared.denied.Denied.{Denied}
use Rattle.held.proofs.Seats.{once_on, only_any, only_by, only_on, only_same, only_wider}
use Rattle.shared.specs.Changes.{event_of}
use Rattle.shared.specs.declared.writes.Change.{Change}
use Rattle.shared.specs.declared.writes.Change.TheVariants.{Append, Truncate, Write}
use Rattle.shared.specs.Own.{IsEviction, IsHelp, IsRoomEvent, IsTry, IsUndone}
use Rattle.shared.specs.Synced.{EndsOnce, IsFlushEnd, IsSyncOver, IsSyncTry, IsTurnTry, IsUnended, IsVerdict, OneSync}
use Rattle.shared.specs.Workers.{IsEnd, IsEndOf, IsFlushBegin, IsWriteBack}
use Rattle.shared.proofs.Making.{IsNoFlush, room_helps}

-- ---- events as a history keeps them

-- an end loses its bytes at most
noted_end : (P : Event → Type 0) (kind : Kind) (end : End) (r : Reply)
    → ((x : End) → x.serial ≡ end.serial → x.cache ≡ end.cache → x.block ≡ end.block → P (event.End kind x)) → P (noted (event.End kind end) r)
noted_end P kind end (reply.Refused why) f = f (end_with end []) refl refl refl
noted_end P kind end r f = f end refl refl refl

abbrev IsPlain : Event → Type 0
IsPlain (event.End kind end) = ⊥
IsPlain e = Unit {0}

-- and what is no end nothing
noted_plain : (e : Event) (r : Reply) → IsPlain e → noted e r ≡ e
noted_plain (event.End kind end) r x = absurd x
noted_plain e r x = refl

module _ (files : Catalog) (sizes : Sizes) (name : ℕ) (whole : Room) where
  only_denied : (own : Entry → Type 0) (e : Event) (old new : HeldSeen) (before after : SeatSeen) (d : Denied)
      → ((why : Refusal) → own (entry_of before.number e (reply.Refused why))) → under.IsDenied files sizes name whole e old new before after d
      → Only own before after
  only_denied own e old new before after d is q = go d.refusal d.slip q
    where
      go : (r : Refusal) (o : Option Slip) → under.DeniedBy files sizes name whole e old new before after r o → Only own before after
      go r None q = only_any own before after q.1.shown.only
      go r (Some slip) q = only_by own e (reply.Refused r) old new before after slip (is r) q

-- ---- one event

pub only_event : (e : Event) (r : Reply) (old new : HeldSeen) (before after : SeatSeen) (slip : Slip)
    → Made e r old new before after slip → IsPlain e → Only (λ x. x.event ≡ e) before after
only_event e r old new before after slip m plain =
    only_by (λ x. x.event ≡ e) e r old new before after slip (noted_plain e r plain) m

module _ (files : Catalog) (sizes : Sizes) (name : ℕ) (whole : Room) where
  pub only_event_denied : (e : Event) (old new : HeldSeen) (before after : SeatSeen) (d : Denied)
      → under.IsDenied files sizes name whole e old new before after d → IsPlain e → Only (λ x. x.event ≡ e) before after
  only_event_denied e old new before after d q plain =
      only_denied files sizes name whole (λ x. x.event ≡ e) e old new before after d (λ why. noted_plain e (reply.Refused why) plain) q

-- ---- room

only_age : (r : Reply) (old new : HeldSeen) (before after : SeatSeen) (slip : Slip)
    → Made event.Age r old new before after slip → Only (λ x. IsEviction x.event) before after
only_age r old new before after slip m = only_by (λ x. IsEviction x.event) event.Age r old new before after slip tt m

module _ (files : Catalog) (sizes : Sizes) (name : ℕ) (whole : Room) where
  pub only_age_denied : (old new : HeldSeen) (before after : SeatSeen) (d : Denied)
      → under.IsDenied files sizes name whole event.Age old new before after d → Only (λ x. IsEviction x.event) before after
  only_age_denied old new before after d q = only_denied files sizes name whole (λ x. IsEviction x.event) event.Age old new before after d (λ why. tt) q

-- pages aged, and one was let go, or that was refused
pub only_evicts : (r t : Reply) (x y z w : HeldSeen) (a b c : SeatSeen) (first slip : Slip)
    → Made event.Age r x y a b first → Made event.Evict t z w b c slip → Only (λ x. IsEviction x.event) a c
only_evicts r t x y z w a b c first slip m n =
    only_on (λ x. IsEviction x.event) a b c (only_age r x y a b first m)
    (only_by (λ x. IsEviction x.event) event.Evict t z w b c slip tt n)

module _ (files : Catalog) (sizes : Sizes) (name : ℕ) (whole : Room) where
  pub only_evict_denied : (r : Reply) (x y z w : HeldSeen) (a b c : SeatSeen) (first : Slip) (d : Denied)
      → Made event.Age r x y a b first → under.IsDenied files sizes name whole event.Evict z w b c d → Only (λ x. IsEviction x.event) a c
  only_evict_denied r x y z w a b c first d m q =
      only_on (λ x. IsEviction x.event) a b c (only_age r x y a b first m)
      (only_denied files sizes name whole (λ x. IsEviction x.event) event.Evict z w b c d (λ why. tt) q)

pub eviction_on : (a b c : SeatSeen) → Only (λ x. IsEviction x.event) a b → Only (λ x. IsEviction x.event) b c
    → Only (λ x. IsEviction x.event) a c
eviction_on a b c p q = only_on (λ x. IsEviction x.event) a b c p q

pub only_flush_end : (end : End) (r : Reply) (old new : HeldSeen) (before after : SeatSeen) (slip : Slip)
    → Made (event.End Flush end) r old new before after slip → Only (λ x. IsFlushEnd x.event) before after
only_flush_end end r old new before after slip m =
    only_by (λ x. IsFlushEnd x.event) (event.End Flush end) r old new before after slip
    (noted_end IsFlushEnd Flush end r (λ x a b c. tt)) m

module _ (files : Catalog) (sizes : Sizes) (name : ℕ) (whole : Room) where
  pub only_first_denied : (old new : HeldSeen) (before after : SeatSeen) (d : Denied)
      → IsFirstDenied files sizes name whole old new before after d → Only (λ x. IsRoomEvent x.event) before after
  only_first_denied old new before after d q =
      only_denied files sizes name whole (λ x. IsRoomEvent x.event) (event.FlushBegin q.file) old new before after d (λ why. tt) q.denied

evicts_room : (e : Event) → IsEviction e → IsRoomEvent e
evicts_room event.Evict x = tt
evicts_room event.Age x = tt
evicts_room e x = absurd x

pub only_evicted : (a b : SeatSeen) → Only (λ x. IsEviction x.event) a b → Only (λ x. IsRoomEvent x.event) a b
only_evicted a b p = only_wider (λ x. IsEviction x.event) (λ x. IsRoomEvent x.event) a b (λ e. evicts_room e.event) p

-- none was idle, and a page was written
pub only_evicted_on : (a b c : SeatSeen) → Only (λ x. IsEviction x.event) a b → Only (λ x. IsRoomEvent x.event) b c
    → Only (λ x. IsRoomEvent x.event) a c
only_evicted_on a b c p q = only_on (λ x. IsRoomEvent x.event) a b c (only_evicted a b p) q

ends_room : (e : Event) → IsFlushEnd e → IsRoomEvent e
ends_room (event.End Flush end) x = tt
ends_room (event.End Fill end) x = absurd x
ends_room e x = absurd x

-- a write was begun and ended
pub only_written : (job : Task) (slip : Slip) (old new : HeldSeen) (a b c : SeatSeen) → Writes job slip old new a b
    → Only (λ x. IsFlushEnd x.event) b c → Only (λ x. IsRoomEvent x.event) a c
only_written job slip old new a b c w p =
    only_on (λ x. IsRoomEvent x.event) a b c
    (only_by (λ x. IsRoomEvent x.event) (event.FlushBegin w.file) (reply.Job (record { 0 = job.serial })) old new a b slip tt w.made)
    (only_wider (λ x. IsFlushEnd x.event) (λ x. IsRoomEvent x.event) b c (λ e. ends_room e.event) p)

pub only_room_on : (a b c : SeatSeen) → Only (λ x. IsRoomEvent x.event) a b → Only (λ x. IsRoomEvent x.event) b c
    → Only (λ x. IsRoomEvent x.event) a c
only_room_on a b c p q = only_on (λ x. IsRoomEvent x.event) a b c p q

-- ---- fills

pub only_fill_begin : (h : HandleId) (p : PageIndex) (r : Reply) (old new : HeldSeen) (before after : SeatSeen) (slip : Slip)
    → Made (event.FillBegin h p) r old new before after slip → Only (λ x. IsHelp h x.event) before after
only_fill_begin h p r old new before after slip m =
    only_by (λ x. IsHelp h x.event) (event.FillBegin h p) r old new before after slip refl m

module _ (files : Catalog) (sizes : Sizes) (name : ℕ) (whole : Room) where
  pub only_fill_begin_denied : (h : HandleId) (p : PageIndex) (old new : HeldSeen) (before after : SeatSeen) (d : Denied)
      → under.IsDenied files sizes name whole (event.FillBegin h p) old new before after d → Only (λ x. IsHelp h x.event) before after
  only_fill_begin_denied h p old new before after d q =
      only_denied files sizes name whole (λ x. IsHelp h x.event) (event.FillBegin h p) old new before after d (λ why. refl) q

-- a fill was begun, and helped on
pub only_begun_on : (h : HandleId) (p : PageIndex) (r : Reply) (old new : HeldSeen) (a b c : SeatSeen) (slip : Slip)
    → Made (event.FillBegin h p) r old new a b slip → Only (λ x. IsHelp h x.event) b c → Only (λ x. IsHelp h x.event) a c
only_begun_on h p r old new a b c slip m q =
    only_on (λ x. IsHelp h x.event) a b c (only_fill_begin h p r old new a b slip m) q

pub only_fill_end : (h : HandleId) (end : End) (r : Reply) (old new : HeldSeen) (before after : SeatSeen) (slip : Slip)
    → Made (event.End Fill end) r old new before after slip → Only (λ x. IsHelp h x.event) before after
only_fill_end h end r old new before after slip m =
    only_by (λ x. IsHelp h x.event) (event.End Fill end) r old new before after slip
    (noted_end (IsHelp h) Fill end r (λ x a b c. tt)) m

pub only_room : (h : HandleId) (a b : SeatSeen) → Only (λ x. IsRoomEvent x.event) a b → Only (λ x. IsHelp h x.event) a b
only_room h a b p = only_wider (λ x. IsRoomEvent x.event) (λ x. IsHelp h x.event) a b (λ e. room_helps h e.event) p

-- room was made, and a page filled
pub only_filled : (h : HandleId) (a b c : SeatSeen) → Only (λ x. IsRoomEvent x.event) a b → Only (λ x. IsHelp h x.event) b c
    → Only (λ x. IsHelp h x.event) a c
only_filled h a b c p q = only_on (λ x. IsHelp h x.event) a b c (only_room h a b p) q

module _ (files : Catalog) (sizes : Sizes) (name : ℕ) (whole : Room) where
  -- a fill was refused, and room made
  pub only_relieved : (h : HandleId) (p : PageIndex) (old new : HeldSeen) (a b c : SeatSeen) (d : Denied)
      → under.IsDenied files sizes name whole (event.FillBegin h p) old new a b d → Only (λ x. IsRoomEvent x.event) b c → Only (λ x. IsHelp h x.event) a c
  only_relieved h p old new a b c d q only =
      only_on (λ x. IsHelp h x.event) a b c (only_fill_begin_denied files sizes name whole h p old new a b d q) (only_room h b c only)

-- ---- calls

pub only_try : (h : HandleId) (own : Event) (r : Reply) (old new : HeldSeen) (before after : SeatSeen) (slip : Slip)
    → Made own r old new before after slip → IsPlain own → IsUndone r → Only (IsTry h own) before after
only_try h own r old new before after slip m plain undone =
    only_by (IsTry h own) own r old new before after slip (inl (noted_plain own r plain, undone)) m

module _ (files : Catalog) (sizes : Sizes) (name : ℕ) (whole : Room) where
  pub only_try_denied : (h : HandleId) (own : Event) (old new : HeldSeen) (before after : SeatSeen) (d : Denied)
      → under.IsDenied files sizes name whole own old new before after d → IsPlain own → Only (IsTry h own) before after
  only_try_denied h own old new before after d q plain =
      only_denied files sizes name whole (IsTry h own) own old new before after d (λ why. inl (noted_plain own (reply.Refused why) plain, tt)) q

pub only_try_on : (h : HandleId) (own : Event) (a b c : SeatSeen) → Only (IsTry h own) a b → Only (IsTry h own) b c
    → Only (IsTry h own) a c
only_try_on h own a b c p q = only_on (IsTry h own) a b c p q

pub once_try_on : (h : HandleId) (own : Event) (a b c : SeatSeen) → Only (IsTry h own) a b → Once (IsTry h own) b c
    → Once (IsTry h own) a c
once_try_on h own a b c p q = once_on (IsTry h own) a b c p q

pub change_plain : (change : Change) (h : HandleId) (bytes : List ℕ) → IsPlain (event_of change h bytes)
change_plain (Write at) h bytes = tt
change_plain Append h bytes = tt
change_plain (Truncate size) h bytes = tt

pub change_no_flush : (change : Change) (h : HandleId) (bytes : List ℕ) → IsNoFlush (event_of change h bytes)
change_no_flush (Write at) h bytes = tt
change_no_flush Append h bytes = tt
change_no_flush (Truncate size) h bytes = tt

only_help : (h : HandleId) (own : Event) (a b : SeatSeen) → Only (λ x. IsHelp h x.event) a b → Only (IsTry h own) a b
only_help h own a b p = only_wider (λ x. IsHelp h x.event) (IsTry h own) a b (λ e x. inr x) p

-- the event was not done, and help came
pub only_missed : (h g : HandleId) (own : Event) (r : Reply) (old new : HeldSeen) (a b c : SeatSeen) (slip : Slip)
    → Made own r old new a b slip → IsPlain own → IsUndone r → g ≡ h → Only (λ x. IsHelp g x.event) b c
    → Only (IsTry h own) a c
only_missed h g own r old new a b c slip m plain undone same p =
    only_on (IsTry h own) a b c (only_try h own r old new a b slip m plain undone)
    (only_help h own b c (subst (λ (n : HandleId). Only (λ x. IsHelp n x.event) b c) same p))

module _ (files : Catalog) (sizes : Sizes) (name : ℕ) (whole : Room) where
  -- it was refused, and room was made
  pub only_settled : (h : HandleId) (own : Event) (old new : HeldSeen) (a b c : SeatSeen) (d : Denied)
      → under.IsDenied files sizes name whole own old new a b d → IsPlain own → Only (λ x. IsRoomEvent x.event) b c → Only (IsTry h own) a c
  only_settled h own old new a b c d q plain p =
      only_on (IsTry h own) a b c (only_try_denied files sizes name whole h own old new a b d q plain) (only_help h own b c (only_room h b c p))

-- ---- syncs

-- a step that did not end the sync
step_try : (m : SyncId) (r : Reply) (old new : HeldSeen) (before after : SeatSeen) (slip : Slip) → IsUnended r
    → Made (event.SyncStep m) r old new before after slip → Only (IsTurnTry m) before after
step_try m r old new before after slip on q =
    only_by (IsTurnTry m) (event.SyncStep m) r old new before after slip (inl (refl, on)) q

module _ (files : Catalog) (sizes : Sizes) (name : ℕ) (whole : Room) where
  pub try_denied : (m : SyncId) (old new : HeldSeen) (before after : SeatSeen) (d : Denied)
      → under.IsDenied files sizes name whole (event.SyncStep m) old new before after d → Only (IsTurnTry m) before after
  try_denied m old new before after d q =
      only_denied files sizes name whole (IsTurnTry m) (event.SyncStep m) old new before after d (λ why. inl (refl, tt)) q

pub try_waits : (m : SyncId) (x : SyncStepped) (p : PageIndex) (b : List ℕ) (old new : HeldSeen) (before after : SeatSeen)
    (slip : Slip) → x ≡ stepped.Wait p b → Made (event.SyncStep m) (sync_stepped (Ok x)) old new before after slip
    → Only (IsTurnTry m) before after
try_waits m x p b old new before after slip is q =
    step_try m (sync_stepped (Ok x)) old new before after slip
    (subst (λ (y : SyncStepped). IsUnended (sync_stepped (Ok y))) (sym is) tt) q

-- a step began a write, which was ended
pub try_writes : (m : SyncId) (x : SyncStepped) (job : Task) (old new : HeldSeen) (a b c : SeatSeen) (slip : Slip)
    → x ≡ stepped.Job job → Made (event.SyncStep m) (sync_stepped (Ok x)) old new a b slip
    → Only (λ e. IsFlushEnd e.event) b c → Only (IsTurnTry m) a c
try_writes m x job old new a b c slip is q p =
    only_on (IsTurnTry m) a b c
    (step_try m (sync_stepped (Ok x)) old new a b slip
    (subst (λ (y : SyncStepped). IsUnended (sync_stepped (Ok y))) (sym is) tt) q)
    (only_wider (λ e. IsFlushEnd e.event) (IsTurnTry m) b c (λ e x. inr x) p)

pub turn_try_on : (m : SyncId) (a b c : SeatSeen) → Only (IsTurnTry m) a b → Only (IsTurnTry m) b c → Only (IsTurnTry m) a c
turn_try_on m a b c p q = only_on (IsTurnTry m) a b c p q

-- a step that ended it
step_over : (m : SyncId) (r : Reply) (old new : HeldSeen) (before after : SeatSeen) (slip : Slip) → IsVerdict r
    → Made (event.SyncStep m) r old new before after slip → EndsOnce (IsTurnTry m) (IsSyncOver m) before after
step_over m r old new before after slip over q = record {
  at = before;
  tried = only_same (IsTurnTry m) before before refl;
  ended = only_by (IsSyncOver m) (event.SyncStep m) r old new before after slip (inl (refl, over)) q;
  few = let one = q.entered.count in omega arith;
}

pub once_clean : (m : SyncId) (x : SyncStepped) (b : List ℕ) (old new : HeldSeen) (before after : SeatSeen) (slip : Slip)
    → x ≡ stepped.Clean b → Made (event.SyncStep m) (sync_stepped (Ok x)) old new before after slip
    → EndsOnce (IsTurnTry m) (IsSyncOver m) before after
once_clean m x b old new before after slip is q =
    step_over m (sync_stepped (Ok x)) old new before after slip
    (subst (λ (y : SyncStepped). IsVerdict (sync_stepped (Ok y))) (sym is) tt) q

pub once_failed : (m : SyncId) (x : SyncStepped) (code : ℕ) (b : List ℕ) (old new : HeldSeen) (before after : SeatSeen)
    (slip : Slip) → x ≡ stepped.Failed code b → Made (event.SyncStep m) (sync_stepped (Ok x)) old new before after slip
    → EndsOnce (IsTurnTry m) (IsSyncOver m) before after
once_failed m x code b old new before after slip is q =
    step_over m (sync_stepped (Ok x)) old new before after slip
    (subst (λ (y : SyncStepped). IsVerdict (sync_stepped (Ok y))) (sym is) tt) q

pub once_turn_on : (m : SyncId) (a b c : SeatSeen) → Only (IsTurnTry m) a b → EndsOnce (IsTurnTry m) (IsSyncOver m) b c
    → EndsOnce (IsTurnTry m) (IsSyncOver m) a c
once_turn_on m a b c p q = record {
  at = q.at;
  tried = only_on (IsTurnTry m) a b q.at p q.tried;
  ended = q.ended;
  few = q.few;
}

-- an event is one at most
pub event_few : (e : Event) (r : Reply) (old new : HeldSeen) (before after : SeatSeen) (slip : Slip)
    → Made e r old new before after slip → after.count ≤ before.count + 1
event_few e r old new before after slip m = let one = m.entered.count in omega arith

module _ (files : Catalog) (sizes : Sizes) (name : ℕ) (whole : Room) where
  pub event_denied_few : (e : Event) (old new : HeldSeen) (before after : SeatSeen) (d : Denied)
      → under.IsDenied files sizes name whole e old new before after d → after.count ≤ before.count + 1
  event_denied_few e old new before after d q = go d.refusal d.slip q
    where
      go : (r : Refusal) (o : Option Slip) → under.DeniedBy files sizes name whole e old new before after r o → after.count ≤ before.count + 1
      go r None q = let same : after.count ≡ before.count = ap (λ (s : SeatSeen). s.count) q.1.shown.same in omega arith
      go r (Some slip) q = event_few e (reply.Refused r) old new before after slip q

begun : (h : HandleId) (first last : PageIndex) (m : SyncId) (old new : HeldSeen) (before at : SeatSeen) (slip : Slip)
    → Made (event.SyncBegin h first last) (reply.Sync m) old new before at slip → Only (IsSyncTry h first last m) before at
begun h first last m old new before at slip q =
    only_by (IsSyncTry h first last m) (event.SyncBegin h first last) (reply.Sync m) old new before at slip
    (inl (refl, refl)) q

turned : (h : HandleId) (first last : PageIndex) (m : SyncId) (a b : SeatSeen) → Only (IsTurnTry m) a b
    → Only (IsSyncTry h first last m) a b
turned h first last m a b p = only_wider (IsTurnTry m) (IsSyncTry h first last m) a b (λ e x. inr x) p

dropped : (m : SyncId) (a b : SeatSeen) → Only (λ x. x.event ≡ event.SyncDrop m) a b → Only (IsSyncOver m) a b
dropped m a b p = only_wider (λ x. x.event ≡ event.SyncDrop m) (IsSyncOver m) a b (λ e x. inr x) p

-- nothing was made past the tries
tried_alone : (h : HandleId) (first last : PageIndex) (m : SyncId) (before after : SeatSeen)
    → Only (IsSyncTry h first last m) before after → OneSync h first last before after
tried_alone h first last m before after p = record {
  sync = m;
  made = record {
    at = after;
    tried = p;
    ended = only_same (IsSyncOver m) after after refl;
    few = omega arith;
  };
}

pub sync_same : (h : HandleId) (first last : PageIndex) (before after : SeatSeen) → after ≡ before
    → OneSync h first last before after
sync_same h first last before after e =
    let none : SyncId = record { 0 = 0 } in
    tried_alone h first last none before after (only_same (IsSyncTry h first last none) before after e)

module _ (files : Catalog) (sizes : Sizes) (name : ℕ) (whole : Room) where
  pub sync_not_begun : (h : HandleId) (first last : PageIndex) (old new : HeldSeen) (before after : SeatSeen) (d : Denied)
      → under.IsDenied files sizes name whole (event.SyncBegin h first last) old new before after d → OneSync h first last before after
  sync_not_begun h first last old new before after d q =
      let none : SyncId = record { 0 = 0 } in
      tried_alone h first last none before after
      (only_denied files sizes name whole (IsSyncTry h first last none) (event.SyncBegin h first last) old new before after d
      (λ why. inl (refl, tt)) q)

pub sync_over : (h : HandleId) (first last : PageIndex) (m : SyncId) (old new : HeldSeen) (a b c : SeatSeen) (slip : Slip)
    → Made (event.SyncBegin h first last) (reply.Sync m) old new a b slip → EndsOnce (IsTurnTry m) (IsSyncOver m) b c
    → OneSync h first last a c
sync_over h first last m old new a b c slip q p = record {
  sync = m;
  made = record {
    at = p.at;
    tried = only_on (IsSyncTry h first last m) a b p.at
        (begun h first last m old new a b slip q) (turned h first last m b p.at p.tried);
    ended = p.ended;
    few = p.few;
  };
}

pub sync_given_up : (h : HandleId) (first last : PageIndex) (m : SyncId) (old new : HeldSeen) (a b c d : SeatSeen) (slip : Slip)
    → Made (event.SyncBegin h first last) (reply.Sync m) old new a b slip → Only (IsTurnTry m) b c
    → Only (λ x. x.event ≡ event.SyncDrop m) c d → d.count ≤ c.count + 1 → OneSync h first last a d
sync_given_up h first last m old new a b c d slip q p last_one few = record {
  sync = m;
  made = record {
    at = c;
    tried = only_on (IsSyncTry h first last m) a b c
        (begun h first last m old new a b slip q) (turned h first last m b c p);
    ended = dropped m c d last_one;
    few = few;
  };
}

-- ---- workers

pub only_end : (job : Task) (kind : Kind) (end : End) (r : Reply) (old new : HeldSeen) (before after : SeatSeen) (slip : Slip)
    → kind ≡ job.kind → end.serial.0 ≡ job.serial → end.cache ≡ job.cache → end.block.0 ≡ job.block
    → Made (event.End kind end) r old new before after slip → Only (λ x. IsEndOf job x.event) before after
only_end job kind end r old new before after slip same serial cache block m =
    only_by (λ x. IsEndOf job x.event) (event.End kind end) r old new before after slip
    (noted_end (IsEndOf job) kind end r (λ x a b c. (
      same,
      ap (λ (n : Serial). n.0) a ∙ serial,
      b ∙ cache,
      ap (λ (n : BlockNo). n.0) c ∙ block,
    ))) m

ends_job : (job : Task) (e : Event) → IsEndOf job e → IsEnd e
ends_job job (event.End kind end) x = tt
ends_job job e x = absurd x

pub only_job : (job : Task) (a b : SeatSeen) → Only (λ x. IsEndOf job x.event) a b → Only (λ x. IsEnd x.event) a b
only_job job a b p = only_wider (λ x. IsEndOf job x.event) (λ x. IsEnd x.event) a b (λ e. ends_job job e.event) p

pub only_ends_on : (a b c : SeatSeen) → Only (λ x. IsEnd x.event) a b → Only (λ x. IsEnd x.event) b c
    → Only (λ x. IsEnd x.event) a c
only_ends_on a b c p q = only_on (λ x. IsEnd x.event) a b c p q

-- a job was ended too
pub only_job_on : (job : Task) (a b c : SeatSeen) → Only (λ x. IsEnd x.event) a b → Only (λ x. IsEndOf job x.event) b c
    → Only (λ x. IsEnd x.event) a c
only_job_on job a b c p q = only_ends_on a b c p (only_job job b c q)

ends_write_back : (e : Event) → IsEnd e → IsWriteBack e
ends_write_back (event.End kind end) x = tt
ends_write_back e x = absurd x

begins_write_back : (e : Event) → IsFlushBegin e → IsWriteBack e
begins_write_back (event.FlushBegin file) x = tt
begins_write_back e x = absurd x

pub only_begins : (a b : SeatSeen) → Only (λ x. IsFlushBegin x.event) a b → Only (λ x. IsWriteBack x.event) a b
only_begins a b p =
    only_wider (λ x. IsFlushBegin x.event) (λ x. IsWriteBack x.event) a b (λ e. begins_write_back e.event) p

-- a write was begun and ended
pub only_flushed : (job : Task) (a b c : SeatSeen) → Only (λ x. IsFlushBegin x.event) a b → Only (λ x. IsEndOf job x.event) b c
    → Only (λ x. IsWriteBack x.event) a c
only_flushed job a b c p q =
    only_on (λ x. IsWriteBack x.event) a b c (only_begins a b p)
    (only_wider (λ x. IsEnd x.event) (λ x. IsWriteBack x.event) b c (λ e. ends_write_back e.event) (only_job job b c q))

pub only_write_back_on : (a b c : SeatSeen) → Only (λ x. IsWriteBack x.event) a b → Only (λ x. IsWriteBack x.event) b c
    → Only (λ x. IsWriteBack x.event) a c
only_write_back_on a b c p q = only_on (λ x. IsWriteBack x.event) a b c p q

pub only_begun : (job : Task) (slip : Slip) (old new : HeldSeen) (before after : SeatSeen)
    → Writes job slip old new before after → Only (λ x. IsFlushBegin x.event) before after
only_begun job slip old new before after w =
    only_by (λ x. IsFlushBegin x.event) (event.FlushBegin w.file) (reply.Job (record { 0 = job.serial })) old new before after
    slip tt w.made

module _ (files : Catalog) (sizes : Sizes) (name : ℕ) (whole : Room) where
  pub only_begun_denied : (old new : HeldSeen) (before after : SeatSeen) (d : Denied)
      → IsFirstDenied files sizes name whole old new before after d → Only (λ x. IsFlushBegin x.event) before after
  only_begun_denied old new before after d q =
      only_denied files sizes name whole (λ x. IsFlushBegin x.event) (event.FlushBegin q.file) old new before after d (λ why. tt) q.denied
