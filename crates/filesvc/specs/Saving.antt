-- How an fsync ends. Where its sync is clean the device is flushed, if anything was written to it since it was last flushed well; and what
-- the handle is told.
use Rattle.std.specs.Prelude.{◌≡◌, ℕ, ◌⊎◌, false, Option, Some, None, unwrap_or, Result, Ok, Err}
use Rattle.blockdev.specs.Device.{Outcome}
use Rattle.pc_types.specs.declared.ids.HandleId.{HandleId}
use Rattle.pc_types.specs.declared.ids.PageIndex.{PageIndex}
use Rattle.pc_types.specs.declared.refusal.Refusal.{Refusal}
use Rattle.pc_types.specs.declared.refusal.Refusal.TheVariants.{Io}
use Rattle.machine.specs.declared.event.Reply.TheVariants as reply
use Rattle.world.specs.Flushing.{IsFlushedOnce}
use Rattle.world.specs.Stepping.{WorldSeen}
use Rattle.filesvc.specs.Made.{Moves, Syncs, is_for_sync}
use Rattle.filesvc.specs.Seen.{HandleSeen, SoloSeen}
use Rattle.filesvc.specs.Service.{IsPolled, IsSyncRefusal, is_reported, is_untold, untold_since}

-- a sync of these pages was clean, and then the device was flushed with this answer, where anything was written to it since it was last
-- flushed well
pub record Saves (h : HandleId) (first last : PageIndex) (old : WorldSeen) (answer : Outcome) (new : WorldSeen) : Type 0 where
  pub synced : WorldSeen
  pub syncs : Syncs h first last old reply.Clean synced
  pub flushes : IsFlushedOnce synced answer new

-- ---- the four ways in which an fsync of these pages ends

-- what is answered where nothing failed but what the poll tells
abbrev pub answer_of : Option ℕ → Result Unit Refusal
answer_of None = Ok tt
answer_of (Some code) = Err (Io code)

-- they are saved, and the handle is polled
pub record IsSaved (first last : PageIndex) (old : SoloSeen) (h : HandleSeen) (result : Result Unit Refusal) (new : SoloSeen) (after : HandleSeen) : Type 0 where
  pub told : Option ℕ
  pub saves : Saves (record { 0 = h.number }) first last old.world (Ok tt) new.world
  pub polled : IsPolled old h told new after
  pub answer : result ≡ answer_of told

-- the flush failed, which is answered, and the handle is not polled
pub record IsUnflushed (first last : PageIndex) (old : SoloSeen) (h : HandleSeen) (result : Result Unit Refusal) (new : SoloSeen) (after : HandleSeen) : Type 0 where
  pub code : ℕ
  pub saves : Saves (record { 0 = h.number }) first last old.world (Err code) new.world
  pub answer : result ≡ Err (Io code)
  pub kept : after ≡ h
  pub untold : is_untold new h.file ≡ untold_since old new h.file

-- a write of the file failed meanwhile, nothing is flushed, and the handle is polled
pub record IsUnwritten (first last : PageIndex) (old : SoloSeen) (h : HandleSeen) (result : Result Unit Refusal) (new : SoloSeen) (after : HandleSeen) : Type 0 where
  pub code : ℕ
  pub told : Option ℕ
  pub syncs : Syncs (record { 0 = h.number }) first last old.world (reply.Failed code) new.world
  pub polled : IsPolled old h told new after
  pub answer : result ≡ Err (Io (unwrap_or told code))

-- it is refused, and the handle is not polled
pub record IsGivenUp (old : SoloSeen) (h : HandleSeen) (result : Result Unit Refusal) (new : SoloSeen) (after : HandleSeen) : Type 0 where
  pub moves : Moves is_for_sync old.world new.world
  pub unreported : is_reported result ≡ false
  pub kept : after ≡ h
  pub untold : is_untold new h.file ≡ untold_since old new h.file

abbrev pub Ends : PageIndex → PageIndex → SoloSeen → HandleSeen → Result Unit Refusal → SoloSeen → HandleSeen → Type 0
Ends first last old h result new after =
    IsSaved first last old h result new after
    ⊎ (IsUnflushed first last old h result new after ⊎ (IsUnwritten first last old h result new after ⊎ IsGivenUp old h result new after))

-- ---- inside this crate: what comes before the poll

-- how these pages are saved
abbrev pub SaveEnds : HandleId → PageIndex → PageIndex → WorldSeen → Result (Option ℕ) Refusal → WorldSeen → Type 0
SaveEnds h first last old (Ok None) new = Saves h first last old (Ok tt) new
SaveEnds h first last old (Ok (Some code)) new = Syncs h first last old (reply.Failed code) new
SaveEnds h first last old (Err (Io code)) new = Saves h first last old (Err code) new
SaveEnds h first last old (Err why) new = Moves is_for_sync old new

-- why that is refused: the flush failed, or as a sync is refused
abbrev pub IsSaveRefusal : Refusal → SoloSeen → Type 0
IsSaveRefusal (Io code) new = Unit {0}
IsSaveRefusal why new = IsSyncRefusal why new
