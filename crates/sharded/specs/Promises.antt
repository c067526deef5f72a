-- What each shard keeps of what a cache keeps that has the device alone.
use Rattle.std.specs.Prelude.{◌≡◌, ℕ, ◌*◌, ◌<◌, ◌≤◌, Bool, true, List, length, All}
use Rattle.std.specs.FinMap as map
use Rattle.pc_types.specs.Files.{pread}
use Rattle.pc_types.specs.declared.ids.HandleId.{HandleId}
use Rattle.machine.specs.declared.event.Event.TheVariants as event
use Rattle.machine.specs.declared.event.Reply.TheVariants as reply
use Rattle.machine.specs.Catalogs.{Catalog, IsCatalog, adopted}
use Rattle.pc_types.specs.Limits.{Sizes}
use Rattle.runs.specs.Always.{Always}
use Rattle.runs.specs.Durable.{last_flush}
use Rattle.runs.specs.Plain.{Plain, plain_file, named}
use Rattle.runs.specs.Reading.{HoldsFiles}
use Rattle.runs.specs.Runs.{IsFirst, Run, world_at, plain_at}
use Rattle.runs.specs.Seen.{files_seen}
use Rattle.runs.specs.Syncing.{Begin, IsSync, Synced}
use Rattle.runs.specs.World.{World, Move, Act, WorldStep}
use Rattle.sharded.specs.Shards.{Sharded, Turn, ShardStep, ShardedRun, EveryShard, left, sharded_at, world_of, steps_of, moment_of}

-- the steps of shard k are a run over its part of the device, and at each moment of all shards its world is the one that its own
-- run has come to
pub record IsRunOfShard (s : Sharded) (steps : List Turn) (k : ℕ) : Type 0 where
  pub run : Run (world_of s k) (steps_of k steps)
  pub worlds : (n : ℕ) → world_of (sharded_at s steps n) k ≡ world_at (world_of s k) (steps_of k steps) (moment_of k steps n)

-- of every shard, in every run of all shards from any world. How the steps of two shards lie in it is not said
abbrev pub ShardsAreRuns : Type 0
ShardsAreRuns = (s : Sharded) (steps : List Turn) (k : ℕ) → ShardedRun s steps → IsRunOfShard s steps k

-- whatever a shard's world may do that has the device alone, the shard may do among the others, at any moment
abbrev pub ShardsAreFree : Type 0
ShardsAreFree = (s : Sharded) (k : ℕ) (move : Move) (w : World) → WorldStep (world_of s k) move w
    → (new : Sharded) × ShardStep s k move new × (world_of new k ≡ w)

-- caches over a device with room for each, where shard k begins with the files of catalog k, which stand on its part
abbrev pub begun : Sizes → (ℕ → ℕ) → (ℕ → Catalog) → List (List ℕ) → Sharded
begun sizes name catalog device = record {
  shard = λ k. record { core = adopted sizes (name k) (catalog k); outcomes = map.empty; writing = map.empty };
  device = device;
  blocks = sizes.blocks;
}

-- each of their worlds is a first one, as that of a cache without files is (`no_catalog`)
abbrev pub ShardsMayBegin : Type 0
ShardsMayBegin = (sizes : Sizes) (name : ℕ → ℕ) (catalog : ℕ → Catalog) (device : List (List ℕ)) (count k : ℕ)
    → 0 < sizes.page → count * sizes.blocks ≤ length device → All (λ block. length block ≡ sizes.page) device
    → k < count → IsCatalog sizes (catalog k) → IsFirst (world_of (begun sizes name catalog device) k)

-- what holds of every world that a run leads to holds of a shard's
abbrev pub ShardsHoldAlways : Type 0
ShardsHoldAlways = EveryShard (λ s steps k. Always (world_of (left s steps) k))

-- the plain files that the shard's calls leave
abbrev pub plain_of : Sharded → ℕ → List Turn → Plain
plain_of s k steps = plain_at (world_of s k) (steps_of k steps) (length (steps_of k steps))

-- after any run each successful read of a shard answers what the shard's plain file holds
abbrev pub ShardReadsAreRight : Type 0
ShardReadsAreRight = EveryShard (λ s steps k.
    (new : World) (h : HandleId) (o n : ℕ) (b : List ℕ)
    → WorldStep (world_of (left s steps) k) (Act (event.Read h o n) (reply.Bytes b)) new
    → b ≡ pread (plain_file (plain_of s k steps) (named (plain_of s k steps) h.0)) o n)

-- the cache of a shard and its part of the device hold the shard's plain files
abbrev pub ShardsHoldFiles : Type 0
ShardsHoldFiles = EveryShard (λ s steps k. HoldsFiles (world_of (left s steps) k) (plain_of s k steps))

-- the files that are seen in a shard are those plain files
abbrev pub ShardFilesAreThose : Type 0
ShardFilesAreThose = EveryShard (λ s steps k. files_seen (world_of (left s steps) k) ≡ plain_of s k steps)

-- where a sync of a shard answers Clean, its range is synced then and at every later moment of the shard
abbrev pub ShardSyncsAreSynced : Type 0
ShardSyncsAreSynced = EveryShard (λ s steps k.
    (a : Begin) (i j : ℕ) → IsSync (world_of s k) (steps_of k steps) a i reply.Clean → i ≤ j
    → j ≤ length (steps_of k steps) → Synced (world_of s k) (steps_of k steps) a j)

-- where a sync of a shard answers Clean, and the one device is flushed well at a moment m of all shards after that, then from m on
-- the sync's range is synced by what the shard's part of the device held at the last good flush
abbrev pub ShardSyncsAreDurable : Type 0
ShardSyncsAreDurable = EveryShard (λ s steps k.
    (flushed : ℕ → Bool) (a : Begin) (j m n : ℕ) → IsSync (world_of s k) (steps_of k steps) a j reply.Clean
    → flushed m ≡ true → j ≤ moment_of k steps m → m ≤ n → n ≤ length steps
    → Synced (world_of s k) (steps_of k steps) a (moment_of k steps (last_flush flushed n)))
