-- How the history of a shared cache is tied to its device. The two lie under different locks, so that a call of the device
-- and the end of its request are two holds. A *deed* of each block ties them: who begins a request takes the deed of its
-- block; who has the deed, and nobody else, makes the device call; and the end brings the deed back, with the bytes that
-- the block was left with. The lock of the cache keeps the desk: where the deed of each block is.
use Rattle.std.specs.Prelude.{◌≡◌, ◌⊎◌, ℕ, Bool, true, List, [], ◌∷◌, count_by, is_some, length, Option, Some, None, slice_get}
use Rattle.std.specs.FinMap as map
use Rattle.pc_types.specs.Limits.{Sizes}
use Rattle.pc_types.specs.declared.kind.Kind.TheVariants.{Flush}
use Rattle.blockdev.specs.Jobs.{Task}
use Rattle.deeds.specs.Shown.{bytes_of, calls_of, known, out_count}
use Rattle.deeds.specs.declared.views.Given.{Given}
use Rattle.deeds.specs.declared.views.Place.{Place}
use Rattle.deeds.specs.declared.views.Place.TheVariants.{Out}
use Rattle.machine.specs.declared.event.End.{End}
use Rattle.machine.specs.Catalogs.{Catalog}
use Rattle.machine.specs.State.{State, Request, page_bytes}
use Rattle.runs.specs.World.{World, Acts}
use Rattle.trail.specs.declared.entry.Entry.{Entry}
use Rattle.trail.specs.Honest.{Fate, Honest, IsTold, EndTells, MayBegin, end_made, world_over}

-- ---- histories that go on

-- an entry, by the end that it makes, in some fate of its request's call
abbrev pub IsToldOnce : World → Entry → Option End → World → Type 0
IsToldOnce w e None new = Acts w e.event e.reply new
IsToldOnce w e (Some end) new =
    (fate : Fate) × (x : Request) × (map.get w.core.requests end.serial.0 ≡ Some x) × EndTells fate w e end x new

-- the entries lead from a world to a world
abbrev pub GoesTo : World → List Entry → World → Type 0
GoesTo w [] new = new ≡ w
GoesTo w (e ∷ es) new = (mid : World) × IsToldOnce w e (end_made e.event e.reply) mid × GoesTo mid es new

-- they do so with these fates
abbrev pub LeadsHonestly : (ℕ → Fate) → World → List Entry → World → Type 0
LeadsHonestly fates w [] new = new ≡ w
LeadsHonestly fates w (e ∷ es) new =
    (mid : World) × IsTold fates w e (end_made e.event e.reply) mid × LeadsHonestly fates mid es new

-- the history is honest over these first blocks, and leads to this world
pub record IsHonest (files : Catalog) (sizes : Sizes) (name : ℕ) (blocks : List (List ℕ)) (history : List Entry) (new : World) : Type 0 where
  pub honest : Honest files sizes name history
  pub device : honest.device ≡ blocks
  pub leads : LeadsHonestly honest.fates (world_over files sizes name blocks) history new

-- how many requests a history ends
abbrev pub ended_count : List Entry → ℕ
ended_count history = count_by (λ e. is_some (end_made e.event e.reply)) history

-- ---- tasks

-- the device call of request t of the cache with this name
abbrev pub task_of : ℕ → ℕ → Request → List ℕ → Task
task_of name t x bytes = record { cache = name; serial = t; kind = x.kind; block = x.block; bytes = bytes }

-- that of a request which has just begun: a flush has the bytes of its page
pub record IsTaskOf (core : State) (t : ℕ) (x : Request) (task : Task) : Type 0 where
  pub is : task ≡ task_of core.name t x task.bytes
  pub writes : x.kind ≡ Flush → task.bytes ≡ page_bytes core x.file x.page

-- ---- what is kept

-- the deed of this block is out for the device call of request t
pub record IsGiven (core : State) (places : List Place) (block t : ℕ) (x : Request) : Type 0 where
  pub given : Given
  pub out : slice_get places block ≡ Some (Out given)
  pub task : given.task ≡ task_of core.name t x given.task.bytes

-- the deed of this block is out for a request of it that is in flight
pub record IsOwned (core : State) (block : ℕ) (given : Given) : Type 0 where
  pub x : Request
  pub is : map.get core.requests given.task.serial ≡ Some x
  pub block_is : x.block ≡ block
  pub task : given.task ≡ task_of core.name given.task.serial x given.task.bytes

-- the deed of a block is out while a request of it is in flight, and then alone. So there are as many out as in flight
pub record IsCovered (core : State) (places : List Place) : Type 0 where
  pub count : length places ≡ core.sizes.blocks
  pub busy : out_count places ≡ map.len core.requests
  pub asked : (t : ℕ) (x : Request) → map.get core.requests t ≡ Some x → IsGiven core places x.block t x
  pub owned : (block : ℕ) (given : Given) → slice_get places block ≡ Some (Out given) → IsOwned core block given

-- what the block of a request in flight may have: what the world has there, or of a flush the bytes that it writes
abbrev pub IsOnItsWay : World → ℕ → Request → Option (List ℕ) → Type 0
IsOnItsWay w t x bytes = (bytes ≡ slice_get w.device x.block) ⊎ ((x.kind ≡ Flush) × (map.get w.writing t ≡ bytes))

-- the history leads from a cache with these files over these blocks to a world whose device is what the desk knows
pub record Tied (files : Catalog) (sizes : Sizes) (name : ℕ) (blocks : List (List ℕ)) (history : List Entry) (core : State)
    (places : List Place) : Type 0 where
  pub world : World
  pub first : MayBegin files sizes name blocks
  pub goes : GoesTo (world_over files sizes name blocks) history world
  pub core_is : world.core ≡ core
  pub device : world.device ≡ bytes_of (known places)
  -- a write in flight has the bytes of its task
  pub writes : (block : ℕ) (given : Given) → slice_get places block ≡ Some (Out given) → given.task.kind ≡ Flush
      → map.get world.writing given.task.serial ≡ Some given.task.bytes

-- both, the second over a device that tells its blocks; and the desk knows of one call for each request that has ended
pub record IsTied (told : Bool) (files : Catalog) (sizes : Sizes) (name : ℕ) (blocks : List (List ℕ)) (history : List Entry) (core : State)
    (places : List Place) : Type 0 where
  pub covered : IsCovered core places
  pub tied : told ≡ true → Tied files sizes name blocks history core places
  pub counted : calls_of (known places) ≡ ended_count history
