-- Syncs of a call, and how it answers them.
use Rattle.std.specs.FinMap as map
use Rattle.std.specs.Prelude.{◌≡◌, ◌⊎◌, ◌+◌, ◌≤◌, ℕ, Option, Some, None}
use Rattle.errboard.specs.Shown.{PassSeen}
use Rattle.held.specs.Shown.{SeatSeen}
use Rattle.held.specs.declared.log.Slip.{Slip}
use Rattle.held.specs.Called.{Goes, IsShown, Only}
use Rattle.held.specs.declared.denied.Denied.{Denied}
use Rattle.machine.specs.declared.event.Event.{Event}
use Rattle.machine.specs.declared.event.Event.TheVariants as event
use Rattle.machine.specs.declared.event.Reply.{Reply}
use Rattle.machine.specs.declared.event.Reply.TheVariants as reply
use Rattle.machine.specs.State.{State}
use Rattle.pc_types.specs.Limits.{Sizes}
use Rattle.machine.specs.Catalogs.{Catalog}
use Rattle.pc_types.specs.declared.ids.HandleId.{HandleId}
use Rattle.pc_types.specs.declared.ids.PageIndex.{PageIndex}
use Rattle.pc_types.specs.declared.ids.SyncId.{SyncId}
use Rattle.pc_types.specs.declared.kind.Kind.TheVariants.{Flush}
use Rattle.pc_types.specs.declared.refusal.Refusal.TheVariants.{Io, Memory, Stranger, TrailFull}
use Rattle.trail.specs.History.{After}
use Rattle.trail.specs.Room.{Room}
use Rattle.trail.specs.declared.entry.Entry.{Entry}
use Rattle.shared.specs.Called.{Makes}
use Rattle.shared.specs.Denials.{IsDenied, IsFullIfNoSlip, MadeOne}
use Rattle.shared.specs.Polls.{Hears, IsLevelled, Polled}
use Rattle.shared.specs.Rooms.{IsFinal}

-- the last step of a sync, by the code of a failed write or without one
abbrev pub end_reply : Option ℕ → Reply
end_reply None = reply.Clean
end_reply (Some code) = reply.Failed code

-- this call began the sync of the handle's pages from first to last, and the seat stands so thereafter
pub record Began (h : HandleId) (first last : PageIndex) (sync : SyncId) (before at : SeatSeen) : Type 0 where
  pub slip : Slip
  pub made : Makes before at slip (event.SyncBegin h first last) (reply.Sync sync)
  pub goes : Goes before at

-- the slip's entry ends a sync that this call began
pub record Syncs (h : HandleId) (first last : PageIndex) (failed : Option ℕ) (before after : SeatSeen) (slip : Slip)
    : Type 0 where
  pub sync : SyncId
  pub at : SeatSeen
  pub began : Began h first last sync before at
  pub ended : Makes at after slip (event.SyncStep sync) (end_reply failed)

-- this seat made the slip's entry, a step that ended a sync with nothing failed
abbrev pub EndsClean : SeatSeen → Slip → Type 0
EndsClean seat slip =
    (before : SeatSeen) × (sync : SyncId) × (before.number ≡ seat.number) × Makes before seat slip (event.SyncStep sync) reply.Clean

-- the end of a write
abbrev pub IsFlushEnd : Event → Type 0
IsFlushEnd (event.End Flush end) = Unit {0}
IsFlushEnd e = ⊥

-- this sync was begun, or none
abbrev pub IsBeginReply : SyncId → Reply → Type 0
IsBeginReply sync (reply.Sync m) = m ≡ sync
IsBeginReply sync (reply.Refused why) = Unit {0}
IsBeginReply sync r = ⊥

-- a step that was answered so did not end the sync: a write was begun, or one is waited for, or the step was refused
abbrev pub IsUnended : Reply → Type 0
IsUnended (reply.Job t) = Unit {0}
IsUnended (reply.Wait p) = Unit {0}
IsUnended (reply.Refused why) = Unit {0}
IsUnended r = ⊥

-- one that was answered so did
abbrev pub IsVerdict : Reply → Type 0
IsVerdict reply.Clean = Unit {0}
IsVerdict (reply.Failed code) = Unit {0}
IsVerdict r = ⊥

-- a step of the sync that did not end it, or the end of a write
abbrev pub IsTurnTry : SyncId → Entry → Type 0
IsTurnTry sync e = ((e.event ≡ event.SyncStep sync) × IsUnended e.reply) ⊎ IsFlushEnd e.event

-- the begin of this sync, of these pages by this handle, or such a turn of it
abbrev pub IsSyncTry : HandleId → PageIndex → PageIndex → SyncId → Entry → Type 0
IsSyncTry h first last sync e =
    ((e.event ≡ event.SyncBegin h first last) × IsBeginReply sync e.reply) ⊎ IsTurnTry sync e

-- the sync is over after this entry: a step that ended it, or its drop
abbrev pub IsSyncOver : SyncId → Entry → Type 0
IsSyncOver sync e = ((e.event ≡ event.SyncStep sync) × IsVerdict e.reply) ⊎ (e.event ≡ event.SyncDrop sync)

-- the seat made such tries, and past them one event at most, which is such an end
pub record EndsOnce (tries over : Entry → Type 0) (before after : SeatSeen) : Type 0 where
  pub at : SeatSeen
  pub tried : Only tries before at
  pub ended : Only over at after
  pub few : after.count ≤ at.count + 1

-- the seat made events of one sync of these pages alone, and none past the end of it
pub record OneSync (h : HandleId) (first last : PageIndex) (before after : SeatSeen) : Type 0 where
  pub sync : SyncId
  pub made : EndsOnce (IsSyncTry h first last sync) (IsSyncOver sync) before after

-- the sync was dropped, or was in progress no longer
abbrev pub IsDropReply : Reply → Type 0
IsDropReply reply.Dropped = Unit {0}
IsDropReply (reply.Refused why) = why ≡ Stranger
IsDropReply r = ⊥

-- the seat has an entry that drops the sync
abbrev pub IsDropped : SyncId → SeatSeen → SeatSeen → Type 0
IsDropped sync before after =
    (slip : Slip) × (r : Reply) × IsDropReply r × Makes before after slip (event.SyncDrop sync) r

-- a step of a sync that this call began was refused, without a slip by a full trail alone, and the sync dropped
pub record GaveUp (files : Catalog) (sizes : Sizes) (name : ℕ) (whole : Room) (h : HandleId) (first last : PageIndex) (before after : SeatSeen) (d : Denied)
    : Type 0 where
  pub sync : SyncId
  pub at : SeatSeen
  pub over : SeatSeen
  pub began : Began h first last sync before at
  pub goes : Goes at over
  pub denied : IsDenied files sizes name whole (λ e. e ≡ event.SyncStep sync) at over d
  pub full : d.slip ≡ None → d.refusal ≡ TrailFull
  pub dropped : IsDropped sync over after

-- no sync was begun: there was no memory for it, and nothing was made; or its begin was refused
abbrev pub IsNotBegun : Catalog → Sizes → ℕ → Room → HandleId → PageIndex → PageIndex → SeatSeen → SeatSeen → Denied → Type 0
IsNotBegun files sizes name whole h first last before after d =
    ((d ≡ record { refusal = Memory; slip = None }) × (after ≡ before))
    ⊎ (IsDenied files sizes name whole (λ e. e ≡ event.SyncBegin h first last) before after d × MadeOne d.slip before after
    × IsFullIfNoSlip before after d)

-- the seat made nothing, and saw a history after which the sync is in progress no longer
pub record IsGone (files : Catalog) (sizes : Sizes) (name : ℕ) (sync : SyncId) (before after : SeatSeen) : Type 0 where
  pub shown : IsShown before after
  pub state : State
  pub leaves : After files sizes name after.list state
  pub gone : map.get state.syncs sync.0 ≡ None

-- a step of a sync that this call began was refused for good, and after that, without an event of this call, the sync was found to be over:
-- another had ended it
pub record WasLost (files : Catalog) (sizes : Sizes) (name : ℕ) (whole : Room) (h : HandleId) (first last : PageIndex) (before after : SeatSeen) (d : Denied)
    : Type 0 where
  pub sync : SyncId
  pub at : SeatSeen
  pub over : SeatSeen
  pub why : Denied
  pub began : Began h first last sync before at
  pub goes : Goes at over
  pub denied : IsDenied files sizes name whole (λ e. e ≡ event.SyncStep sync) at over why
  pub full : why.slip ≡ None → why.refusal ≡ TrailFull
  pub final : IsFinal files sizes name over why
  pub gone : IsGone files sizes name sync over after
  pub is : d ≡ record { refusal = Stranger; slip = None }

-- no sync was begun, or the one that was is given up, or was lost
abbrev pub IsSyncDenied : Catalog → Sizes → ℕ → Room → HandleId → PageIndex → PageIndex → SeatSeen → SeatSeen → Denied → Type 0
IsSyncDenied files sizes name whole h first last before after d =
    IsNotBegun files sizes name whole h first last before after d
    ⊎ (GaveUp files sizes name whole h first last before after d ⊎ WasLost files sizes name whole h first last before after d)

-- the refusal has the code that the poll answered, or else that of the step which ended the sync
pub record Reports (failed : Option ℕ) (slip : Slip) (old new : PassSeen) (d : Denied) : Type 0 where
  pub answer : Option ℕ
  pub code : ℕ
  pub polled : Polled old new answer
  pub tells : (answer ≡ Some code) ⊎ ((answer ≡ None) × (failed ≡ Some code))
  pub is : d ≡ record { refusal = Io code; slip = Some slip }

-- a write of the file failed: while this call's sync was in progress, or since the handle was last told. The handle knows of it
abbrev pub WriteFailed : Catalog → Sizes → ℕ → HandleId → PageIndex → PageIndex → SeatSeen → SeatSeen → PassSeen → PassSeen → Denied
    → Type 0
WriteFailed files sizes name h first last before after old new d =
    (failed : Option ℕ) × (slip : Slip) × Syncs h first last failed before after slip × Hears files sizes name slip after new
    × Reports failed slip old new d

-- this call's sync ended clean, and the device could not make its writes durable
abbrev pub FlushFailed : HandleId → PageIndex → PageIndex → SeatSeen → SeatSeen → Denied → Type 0
FlushFailed h first last before after d =
    (code : ℕ) × (slip : Slip) × Syncs h first last None before after slip
    × (d ≡ record { refusal = Io code; slip = None })

-- how an fsync is refused. The pass is told of what a failed write was, and of nothing else
abbrev pub IsFsyncDenied : Catalog → Sizes → ℕ → Room → HandleId → PageIndex → PageIndex → SeatSeen → SeatSeen → PassSeen → PassSeen → Denied
    → Type 0
IsFsyncDenied files sizes name whole h first last before after old new d =
    WriteFailed files sizes name h first last before after old new d
    ⊎ ((IsLevelled old new × FlushFailed h first last before after d)
    ⊎ ((new ≡ old) × IsSyncDenied files sizes name whole h first last before after d))
