-- What holds of the device under its lock, and of the device at the end.
use Rattle.std.specs.Prelude.{◌≡◌, ◌≢◌, ◌<◌, ◌≤◌, ℕ, ◌+◌, Bool, Err, List, Ok, Result, Some, length, map as map_list, min, slice_get}
use Rattle.std.specs.FinMap as map
use Rattle.blockdev.specs.Device.{Outcome, Told, max_calls}
use Rattle.deeds.specs.Shown.{AreTold}
use Rattle.machine.specs.State.{Request, State}
use Rattle.pc_types.specs.Limits.{Sizes}
use Rattle.machine.specs.Catalogs.{Catalog}
use Rattle.runs.specs.World.{World}
use Rattle.tied.specs.Tied.{IsHonest, IsOnItsWay, ended_count}
use Rattle.trail.specs.declared.entry.Entry.{Entry}

-- it has blocks of a page, as many as the cache
abbrev pub IsDisk : Sizes → Told → Type 0
IsDisk sizes device = (device.size ≡ sizes.page) × (device.count ≡ sizes.blocks)

-- the catalog of a cache that has made no event yet
abbrev pub begun_with : State → Catalog
begun_with s = record { sizes = map_list (λ file. file.size) s.files; spots = s.spots }

-- how a call went, whatever it gives
abbrev pub answer_of : {A : Type 0} → Result A ℕ → Outcome
answer_of (Ok x) = Ok tt
answer_of (Err code) = Err code

-- the blocks of a device, where it tells them
abbrev pub AreBlocksOf : Bool → List (List ℕ) → Told → Type 0
AreBlocksOf told blocks device = AreTold told device blocks × (length blocks ≡ device.count)

-- the device is what the history makes of one with these first blocks: the history is honest over them, with this core at its
-- end, and the device has each block as the world then has it. The block of a flush that is still in flight may have its bytes
pub record IsLeftBy (files : Catalog) (sizes : Sizes) (name : ℕ) (blocks : List (List ℕ)) (history : List Entry) (core : State) (device : Told)
    : Type 0 where
  pub world : World
  pub honest : IsHonest files sizes name blocks history world
  pub core_is : world.core ≡ core
  pub left : List (List ℕ)
  pub told : device.contents ≡ Some left
  pub each : (k : ℕ) → k < sizes.blocks → ((t : ℕ) (x : Request) → map.get core.requests t ≡ Some x → x.block ≢ k)
      → slice_get left k ≡ slice_get world.device k
  pub busy : (t : ℕ) (x : Request) → map.get core.requests t ≡ Some x → IsOnItsWay world t x (slice_get left x.block)

-- a device that had made so many calls made so many more. One past the last that can be counted is refused
abbrev pub HasMade : ℕ → ℕ → Told → Type 0
HasMade first more device = device.calls ≡ min (first + more) max_calls

-- it made one call for each request that the history ends, and at most one for each that is still in flight
abbrev pub IsCalledFor : ℕ → List Entry → State → Told → Type 0
IsCalledFor first history core device =
    (more : ℕ) × (more ≤ map.len core.requests) × HasMade first (ended_count history + more) device
