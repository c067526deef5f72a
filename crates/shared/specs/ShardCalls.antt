-- What a call makes in a shard, of the caller's seat there, where that is of the shard's cache: what the call of `SharedCache` says.
use Rattle.std.specs.Prelude.{◌≡◌, ◌≢◌, ◌⊎◌, ◌+◌, ◌*◌, ◌-◌, ◌^◌, ◌<◌, ◌≤◌, ℕ, Bool, List, Option, Result, Err, None, Some, IfErr, IfOk, IsOkUnless, drop, length, min, take}
use Rattle.cachecore.specs.Standing.{Tells}
use Rattle.cursor.specs.declared.seek.Seek.{Seek}
use Rattle.held.specs.Called.{Goes, Once, Only}
use Rattle.held.specs.Shown.{SeatSeen}
use Rattle.held.specs.declared.denied.Denied.{Denied}
use Rattle.held.specs.declared.log.Slip.{Slip}
use Rattle.catalog.specs.Cataloged.{Cataloged}
use Rattle.machine.specs.State.{State}
use Rattle.machine.specs.declared.event.Event.TheVariants as event
use Rattle.machine.specs.declared.event.Reply.TheVariants as reply
use Rattle.pc_types.specs.declared.ids.FileId.{FileId}
use Rattle.pc_types.specs.declared.ids.PageIndex.{PageIndex}
use Rattle.pc_types.specs.declared.limits.TheConstants.{MAX_FILE_SIZE}
use Rattle.pc_types.specs.declared.refusal.Refusal.{Refusal}
use Rattle.pc_types.specs.declared.refusal.Refusal.TheVariants.{BadHandle, Memory}
use Rattle.shared.specs.Called.{Makes, OwnFirst}
use Rattle.shared.specs.Changes.{cursor_after, write_event}
use Rattle.shared.specs.Denials.{IsDenied, IsFullIfNoSlip, MadeOne}
use Rattle.shared.specs.Own.{IsCallOf, IsTry, count_in}
use Rattle.shared.specs.Polls.{Hears, HearsJust, IsSampled, Polled}
use Rattle.shared.specs.Rooms.{IsFinal, IsLost, IsShortFor}
use Rattle.shared.specs.Seeks.{Seeks, place_after}
use Rattle.shared.specs.Seen.{HandleSeen}
use Rattle.shared.specs.Settled.{FillsMissed, Settles}
use Rattle.shared.specs.ShardNames.{CacheNames}
use Rattle.shared.specs.Synced.{IsFsyncDenied, IsNotBegun, OneSync, Syncs}
use Rattle.shared.specs.declared.writes.Wrote.{Wrote}
use Rattle.trail.specs.History.{After}

-- the number of a shard's file among those of so many shards
abbrev pub number_of : ℕ → ℕ → ℕ → ℕ
number_of shards shard file = min (file * shards + shard) (2 ^ 64 - 1)

-- no handle of the shard's cache: refused, and nothing made
abbrev pub NotOpen : {A : Type 0} → Result A Denied → SeatSeen → SeatSeen → Type 0
NotOpen result before after = (result ≡ Err (record { refusal = BadHandle; slip = None })) × (after ≡ before)

-- `create`
pub record Creates (n : CacheNames) (result : Result (FileId × Slip) Denied) (before after : SeatSeen) : Type 0 where
  pub goes : Goes before after
  pub only : Only (λ e. e.event ≡ event.Create) before after
  pub answer : IfOk result (λ r. Makes before after r.1 event.Create (reply.File r.0))
  pub few : IfOk result (λ r. r.0.0 < 64)
  pub one : IfOk result (λ r. MadeOne (Some r.1) before after)
  pub refused_once : IfErr result (λ d. MadeOne d.slip before after)
  pub denied : IfErr result (IsDenied n.files n.sizes n.name n.whole (λ e. e ≡ event.Create) before after)
  pub full : IfErr result (IsFullIfNoSlip before after)

-- `open` of the shard's own file
pub record Opens (n : CacheNames) (file : FileId) (append : Bool) (result : Result (HandleSeen × Slip) Denied) (before after : SeatSeen)
    : Type 0 where
  pub goes : Goes before after
  pub only : Only (λ e. e.event ≡ event.Open file) before after
  pub answer : IfOk result (λ r. Makes before after r.1 (event.Open file) (reply.Handle r.0.number))
  pub one : IfOk result (λ r. MadeOne (Some r.1) before after)
  pub refused_once : IfErr result (λ d. MadeOne d.slip before after)
  pub handle : IfOk result (λ r. (r.0.cache ≡ n.name) × (r.0.file ≡ file) × (r.0.pass.board ≡ n.board))
  pub begins : IfOk result (λ r. (r.0.cursor ≡ 0) × (r.0.append ≡ append))
  pub hears : IfOk result (λ r. HearsJust n.files n.sizes n.name r.1 after r.0.pass)
  pub sampled : IfOk result (λ r. IsSampled r.0.pass)
  pub denied : IfErr result (IsDenied n.files n.sizes n.name n.whole (λ e. e ≡ event.Open file) before after)
  pub full : IfErr result (IsFullIfNoSlip before after)

-- `close_handle`
pub record Closes (n : CacheNames) (h : HandleSeen) (result : Result Slip (Denied × HandleSeen)) (before after : SeatSeen) : Type 0 where
  pub closed : h.cache ≢ n.name → (result ≡ Err (record { refusal = BadHandle; slip = None }, h)) × (after ≡ before)
  pub goes : Goes before after
  pub only : Only (λ e. e.event ≡ event.Close h.number) before after
  pub answer : IfOk result (λ slip. Makes before after slip (event.Close h.number) reply.Closed)
  pub one : IfOk result (λ slip. MadeOne (Some slip) before after)
  pub refused_once : IfErr result (λ d. MadeOne d.0.slip before after)
  pub denied : h.cache ≡ n.name → IfErr result (λ d. IsDenied n.files n.sizes n.name n.whole (λ e. e ≡ event.Close h.number) before after d.0)
  pub full : h.cache ≡ n.name → IfErr result (λ d. IsFullIfNoSlip before after d.0)
  pub back : IfErr result (λ d. d.1 ≡ h)

-- `size`
pub record Measures (n : CacheNames) (h : HandleSeen) (result : Result (ℕ × Slip) Denied) (before after : SeatSeen) : Type 0 where
  pub closed : h.cache ≢ n.name → NotOpen result before after
  pub goes : Goes before after
  pub only : Only (λ e. e.event ≡ event.Size h.number) before after
  pub answer : IfOk result (λ r. Makes before after r.1 (event.Size h.number) (reply.Size r.0))
  pub one : IfOk result (λ r. MadeOne (Some r.1) before after)
  pub refused_once : IfErr result (λ d. MadeOne d.slip before after)
  pub denied : h.cache ≡ n.name → IfErr result (IsDenied n.files n.sizes n.name n.whole (λ e. e ≡ event.Size h.number) before after)
  pub full : h.cache ≡ n.name → IfErr result (IsFullIfNoSlip before after)

-- `pread`
pub record Reads (n : CacheNames) (h : HandleSeen) (offset : ℕ) (old new : List ℕ) (result : Result (ℕ × Slip) Denied)
    (before after : SeatSeen) : Type 0 where
  pub closed : h.cache ≢ n.name → NotOpen result before after
  pub goes : Goes before after
  pub only : IfErr result (λ _. Only (IsTry h.number (event.Read h.number offset (length old))) before after)
  pub once : IfOk result (λ _. Once (IsTry h.number (event.Read h.number offset (length old))) before after)
  pub answer : IfOk result (λ r. Makes before after r.1 (event.Read h.number offset (length old)) (reply.Bytes (take r.0 new)))
  pub denied : h.cache ≡ n.name
      → IfErr result (IsDenied n.files n.sizes n.name n.whole (IsCallOf h.number (event.Read h.number offset (length old))) before after)
  pub lost : IfErr result (IsLost n.files n.sizes n.name after)
  pub count : IfOk result (λ r. r.0 ≤ length old)
  pub rest : drop (count_in result) new ≡ drop (count_in result) old
  pub within : offset ≤ MAX_FILE_SIZE → offset + count_in result ≤ MAX_FILE_SIZE
  pub stands : IfErr result (IsFinal n.files n.sizes n.name after)
  pub wanting : IfErr result (IsShortFor (event.Read h.number offset (length old)) before after)
  pub settled : Settles n.name before after
  pub missed : FillsMissed (event.Read h.number offset (length old)) before after
  pub first : OwnFirst (event.Read h.number offset (length old)) before after

-- `read`: what `pread` is at the cursor, which goes on by the count
pub record ReadsOn (n : CacheNames) (h now : HandleSeen) (old new : List ℕ) (result : Result (ℕ × Slip) Denied) (before after : SeatSeen)
    : Type 0 where
  pub closed : h.cache ≢ n.name → NotOpen result before after
  pub goes : Goes before after
  pub only : IfErr result (λ _. Only (IsTry h.number (event.Read h.number h.cursor (length old))) before after)
  pub once : IfOk result (λ _. Once (IsTry h.number (event.Read h.number h.cursor (length old))) before after)
  pub answer : IfOk result (λ r. Makes before after r.1 (event.Read h.number h.cursor (length old)) (reply.Bytes (take r.0 new)))
  pub denied : h.cache ≡ n.name
      → IfErr result (IsDenied n.files n.sizes n.name n.whole (IsCallOf h.number (event.Read h.number h.cursor (length old))) before after)
  pub lost : IfErr result (IsLost n.files n.sizes n.name after)
  pub count : IfOk result (λ r. r.0 ≤ length old)
  pub rest : drop (count_in result) new ≡ drop (count_in result) old
  pub cursor : now ≡ record h { cursor = h.cursor + count_in result }
  pub stands : IfErr result (IsFinal n.files n.sizes n.name after)
  pub wanting : IfErr result (IsShortFor (event.Read h.number h.cursor (length old)) before after)
  pub settled : Settles n.name before after
  pub missed : FillsMissed (event.Read h.number h.cursor (length old)) before after
  pub first : OwnFirst (event.Read h.number h.cursor (length old)) before after

-- `seek`
pub record Moves (n : CacheNames) (place : Seek) (h now : HandleSeen) (result : Result (ℕ × Option Slip) Denied) (before after : SeatSeen)
    : Type 0 where
  pub closed : h.cache ≢ n.name → NotOpen result before after
  pub goes : Goes before after
  pub only : Only (λ e. e.event ≡ event.Size h.number) before after
  pub sought : h.cache ≡ n.name → Seeks n.files n.sizes n.name n.whole place h before after result
  pub cursor : now ≡ record h { cursor = place_after h.cursor result }

-- `pwrite`
pub record Writes (n : CacheNames) (h : HandleSeen) (offset : ℕ) (bytes : List ℕ) (result : Result (Wrote × Slip) Denied)
    (before after : SeatSeen) : Type 0 where
  pub closed : h.cache ≢ n.name → NotOpen result before after
  pub goes : Goes before after
  pub only : IfErr result (λ _. Only (IsTry h.number (event.Write h.number offset bytes)) before after)
  pub once : IfOk result (λ _. Once (IsTry h.number (event.Write h.number offset bytes)) before after)
  pub answer : IfOk result (λ r. Makes before after r.1 (event.Write h.number offset bytes) (reply.Wrote r.0.count r.0.end))
  pub denied : h.cache ≡ n.name
      → IfErr result (IsDenied n.files n.sizes n.name n.whole (IsCallOf h.number (event.Write h.number offset bytes)) before after)
  pub lost : IfErr result (IsLost n.files n.sizes n.name after)
  pub count : IfOk result (λ r. (r.0.count ≡ length bytes) × (r.0.end ≡ offset + length bytes))
  pub stands : IfErr result (IsFinal n.files n.sizes n.name after)
  pub wanting : IfErr result (IsShortFor (event.Write h.number offset bytes) before after)
  pub settled : Settles n.name before after
  pub missed : FillsMissed (event.Write h.number offset bytes) before after
  pub first : OwnFirst (event.Write h.number offset bytes) before after

-- `write`: at the cursor, or by an appending handle at the end of the file; the cursor is behind the bytes then
pub record WritesOn (n : CacheNames) (h now : HandleSeen) (bytes : List ℕ) (result : Result (Wrote × Slip) Denied) (before after : SeatSeen)
    : Type 0 where
  pub closed : h.cache ≢ n.name → NotOpen result before after
  pub goes : Goes before after
  pub only : IfErr result (λ _. Only (IsTry h.number (write_event h bytes)) before after)
  pub once : IfOk result (λ _. Once (IsTry h.number (write_event h bytes)) before after)
  pub answer : IfOk result (λ r. Makes before after r.1 (write_event h bytes) (reply.Wrote r.0.count r.0.end))
  pub denied : h.cache ≡ n.name
      → IfErr result (IsDenied n.files n.sizes n.name n.whole (IsCallOf h.number (write_event h bytes)) before after)
  pub lost : IfErr result (IsLost n.files n.sizes n.name after)
  pub count : IfOk result (λ r. r.0.count ≡ length bytes)
  pub cursor : now ≡ record h { cursor = cursor_after h.cursor result }
  pub stands : IfErr result (IsFinal n.files n.sizes n.name after)
  pub wanting : IfErr result (IsShortFor (write_event h bytes) before after)
  pub settled : Settles n.name before after
  pub missed : FillsMissed (write_event h bytes) before after
  pub first : OwnFirst (write_event h bytes) before after

-- `truncate`
pub record Cuts (n : CacheNames) (h : HandleSeen) (size : ℕ) (result : Result Slip Denied) (before after : SeatSeen) : Type 0 where
  pub closed : h.cache ≢ n.name → NotOpen result before after
  pub goes : Goes before after
  pub only : IfErr result (λ _. Only (IsTry h.number (event.Truncate h.number size)) before after)
  pub once : IfOk result (λ _. Once (IsTry h.number (event.Truncate h.number size)) before after)
  pub answer : IfOk result (λ slip. Makes before after slip (event.Truncate h.number size) reply.Done)
  pub denied : h.cache ≡ n.name
      → IfErr result (IsDenied n.files n.sizes n.name n.whole (IsCallOf h.number (event.Truncate h.number size)) before after)
  pub lost : IfErr result (IsLost n.files n.sizes n.name after)
  pub stands : IfErr result (IsFinal n.files n.sizes n.name after)
  pub wanting : IfErr result (IsShortFor (event.Truncate h.number size) before after)
  pub settled : Settles n.name before after
  pub missed : FillsMissed (event.Truncate h.number size) before after
  pub first : OwnFirst (event.Truncate h.number size) before after

-- `fsync_range`, and `fsync`, which is that of all pages
pub record Fsyncs (n : CacheNames) (first last : PageIndex) (old new : HandleSeen) (result : Result Slip Denied) (before after : SeatSeen)
    : Type 0 where
  pub closed : old.cache ≢ n.name → NotOpen result before after × (new ≡ old)
  pub goes : Goes before after
  pub only : OneSync old.number first last before after
  pub same : (new ≡ record old { pass = new.pass }) × (new.pass.board ≡ old.pass.board)
  pub clean : IfOk result (λ slip. Syncs old.number first last None before after slip × Polled old.pass new.pass None)
  pub hears : IfOk result (λ slip. Hears n.files n.sizes n.name slip after new.pass)
  pub denied : old.cache ≡ n.name
      → IfErr result (IsFsyncDenied n.files n.sizes n.name n.whole old.number first last before after old.pass new.pass)
  pub stands : IfErr result (λ d. IsNotBegun n.files n.sizes n.name n.whole old.number first last before after d
      ⊎ IsFinal n.files n.sizes n.name after d)
  pub settled : Settles n.name before after

-- `block_of`: of the shard's history as the seat sees it then, the answer is so
pub record Places (n : CacheNames) (answered : State → Type 0) (before after : SeatSeen) : Type 0 where
  pub goes : Goes before after
  pub only : Only (λ _. ⊥) before after
  pub stands : (state : State) × After n.files n.sizes n.name after.list state × answered state

-- `catalog`
pub record Lists (n : CacheNames) (result : Result Cataloged Refusal) (before after : SeatSeen) : Type 0 where
  pub goes : Goes before after
  pub only : Only (λ _. ⊥) before after
  pub told : (state : State) × After n.files n.sizes n.name after.list state × IfOk result (Tells state)
  pub refused : IsOkUnless result Memory
