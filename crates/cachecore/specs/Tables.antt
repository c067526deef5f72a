-- Inside this crate: the tables that the program keeps, as the maps of the state, and what always holds of them.
use Rattle.std.specs.Prelude.{◌≡◌, ◌+◌, ◌<◌, ◌≤◌, ℕ, List, length, Some}
use Rattle.std.specs.Ordering.{nat_cmp}
use Rattle.std.specs.FinMap.{FinMap, get, len}
use Rattle.pc_types.specs.Limits.{Sizes}
use Rattle.pc_types.specs.declared.limits.TheConstants.{MAX_FILES, MAX_FILE_SIZE, MAX_FRAMES, SERIAL_END}
use Rattle.blockmap.specs.Blocks.{Blocks}
use Rattle.blockmap.specs.Keys.{IsPage}
use Rattle.writeback.specs.Flights.{Flights}
use Rattle.machine.specs.State.{State, File, Request, Sync, cached_total, file_at, filling_total, is_filling}
use Rattle.machine.specs.Sound.{Sound}
use Rattle.pagestore.specs.Ranges.{AreSized}
use Rattle.pagestore.specs.Store.{Store, is_awaited}
use Rattle.cachecore.specs.Holding.{Holds}
use Rattle.cachecore.specs.Syncing.{AreSyncs}

-- the state that the tables make
abbrev pub state_of : Sizes → ℕ → List File → FinMap nat_cmp ℕ → Blocks → Flights → FinMap nat_cmp Sync → State
state_of sizes name files handles blocks flights syncs =
    record {
      sizes = sizes;
      name = name;
      files = files;
      handles = handles;
      spots = blocks.spots;
      next = flights.next;
      requests = flights.requests;
      syncs = syncs;
    }

-- what a cache in this state keeps of its store of pages and its blocks
pub record IsCore (s : State) (store : Store) (blocks : Blocks) : Type 0 where
  pub few_files : length s.files ≤ MAX_FILES
  pub known : (h f : ℕ) → get s.handles h ≡ Some f → f < length s.files
  pub bounded : (f : ℕ) → (file_at s f).size ≤ MAX_FILE_SIZE
  pub sized : (f : ℕ) → AreSized s.sizes.page (file_at s f).pages
  pub page : store.page ≡ s.sizes.page
  -- each frame is a cached page's, a filling one's, or free
  pub framed : s.sizes.frames ≤ MAX_FRAMES
  pub counted : cached_total s + filling_total s + store.free ≡ s.sizes.frames
  pub filling : (f p : ℕ) → is_awaited store f p ≡ is_filling s f p
  -- the blocks are those of the device, and the requests in flight hold theirs
  pub device : blocks.count ≡ s.sizes.blocks
  pub holds : Holds blocks.held s.requests
  pub within : (t : ℕ) (r : Request) → get s.requests t ≡ Some r → IsPage r.file r.page
  pub filed : (t : ℕ) (r : Request) → get s.requests t ≡ Some r → r.file < length s.files
  -- each failed write of a file was a request that ended, so their count fits
  pub failed : (f : ℕ) → (file_at s f).failures + len s.requests ≤ s.next
  pub serials : s.next ≤ SERIAL_END
  pub sound : Sound s

-- what it keeps of all its tables
pub record IsCache (s : State) (store : Store) (blocks : Blocks) : Type 0 where
  pub core : IsCore s store blocks
  pub syncs : AreSyncs s.handles s.files s.syncs
