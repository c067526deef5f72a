-- Inside this crate: what an event that may begin a request comes to, where the request is left to the caller to begin.
use Rattle.std.specs.Prelude.{◌≡◌, ◌<◌, ℕ, Bool, true, false, length, Some, Result, Ok, Err}
use Rattle.mapping.specs.declared.mapping.TheConstants.{MAX_PAGES}
use Rattle.pc_types.specs.Spots.{Spot}
use Rattle.pc_types.specs.declared.ids.FileId.{FileId}
use Rattle.pc_types.specs.declared.ids.PageIndex.{PageIndex}
use Rattle.pc_types.specs.declared.refusal.Refusal.{Refusal}
use Rattle.machine.specs.declared.event.Reply.{Reply}
use Rattle.machine.specs.declared.event.Reply.TheVariants as reply
use Rattle.machine.specs.State.{State, file_at, free_frames, is_cached, is_filling, page_count, spot_at}
use Rattle.blockmap.specs.declared.spots.Placed.{Placed}
use Rattle.cachecore.specs.declared.fills.FillNext.{FillNext}
use Rattle.cachecore.specs.declared.fills.FillNext.TheVariants as fill
use Rattle.cachecore.specs.declared.syncs.SyncNext.{SyncNext}
use Rattle.cachecore.specs.declared.syncs.SyncNext.TheVariants as sync

-- ---- fills

-- whether a page is left to be read
abbrev pub is_read : Result FillNext Refusal → Bool
is_read (Ok (fill.Read f b)) = true
is_read _ = false

abbrev pub OnRead : (FileId → Placed → Type 0) → FillNext → Type 0
OnRead P (fill.Read f x) = P f x
OnRead P _ = Unit {0}

-- the reply, where no page is left to be read
abbrev pub fill_says : Result FillNext Refusal → Reply
fill_says (Ok fill.Gone) = reply.Gone
fill_says (Ok (fill.Wait p)) = reply.Wait p
fill_says (Ok fill.Present) = reply.Present
fill_says (Ok fill.Filled) = reply.Filled
fill_says (Ok (fill.Read f b)) = reply.Done
fill_says (Err r) = reply.Refused r

-- the spot that is told
abbrev pub its_spot : Placed → Spot
its_spot placed = record { block = placed.block.0; valid = placed.valid }

-- page p of file f is absent, and its bytes are on the device alone, where it stands
pub record IsToRead (s : State) (f p : ℕ) (x : Placed) : Type 0 where
  pub here : f < length s.files
  pub below : p < MAX_PAGES
  pub inside : p < page_count s.sizes.page (file_at s f).size
  pub absent : is_cached s f p ≡ false
  pub idle : is_filling s f p ≡ false
  pub room : 0 < free_frames s
  pub placed : spot_at s f p ≡ Some (its_spot x)
  pub valid : 0 < x.valid
  pub within : x.block.0 < s.sizes.blocks

-- ---- syncs

-- whether a page is left to be started
abbrev pub is_start : Result SyncNext Refusal → Bool
is_start (Ok (sync.Start f p)) = true
is_start _ = false

abbrev pub OnStart : (FileId → PageIndex → Type 0) → SyncNext → Type 0
OnStart P (sync.Start f p) = P f p
OnStart P _ = Unit {0}

-- the reply, where no page is left to be started
abbrev pub sync_says : Result SyncNext Refusal → Reply
sync_says (Ok (sync.Start f p)) = reply.Done
sync_says (Ok (sync.Wait p)) = reply.Wait p
sync_says (Ok sync.Clean) = reply.Clean
sync_says (Ok (sync.Failed code)) = reply.Failed code
sync_says (Err r) = reply.Refused r
