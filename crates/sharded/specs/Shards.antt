-- Many caches over one device, of which each has a part. A shard is a cache with the device calls of its requests; its part of the
-- device is as many blocks as each other's, one part after another. The steps of the shards come in any order.
--
-- s is a sharded world, k and j are shards, m and n are moments of a run of all shards.
use Rattle.std.specs.Prelude.{◌≡◌, ◌≢◌, ℕ, ◌+◌, ◌*◌, ◌<◌, ◌≤◌, ◌⊎◌, ◌==◌, if◌then◌else◌, List, [], ◌∷◌, length, take, drop}
use Rattle.std.specs.Prelude.{slice_get}
use Rattle.std.specs.Ordering.{nat_cmp}
use Rattle.std.specs.FinMap as map
use Rattle.machine.specs.declared.event.Outcome.{Outcome}
use Rattle.machine.specs.State.{State}
use Rattle.runs.specs.World.{World, Move, WorldStep}
use Rattle.runs.specs.Runs.{IsFirst, Steps}

-- a cache, how the device calls of its requests went, and the bytes of its writes in flight
pub record Shard : Type 0 where
  pub core : State
  pub outcomes : map.FinMap nat_cmp Outcome
  pub writing : map.FinMap nat_cmp (List ℕ)

-- the shards by number, the one device, and how many blocks of it a shard has
pub record Sharded : Type 0 where
  pub shard : ℕ → Shard
  pub device : List (List ℕ)
  pub blocks : ℕ

-- the part of the device that shard k has
abbrev pub part : Sharded → ℕ → List (List ℕ)
part s k = take s.blocks (drop (k * s.blocks) s.device)

-- a block that it does not have
abbrev pub IsElsewhere : Sharded → ℕ → ℕ → Type 0
IsElsewhere s k b = (b < k * s.blocks) ⊎ (k * s.blocks + s.blocks ≤ b)

-- its world: the cache over its part of the device
abbrev pub world_of : Sharded → ℕ → World
world_of s k =
    record { core = (s.shard k).core; device = part s k; outcomes = (s.shard k).outcomes; writing = (s.shard k).writing }

-- shard k makes a move
pub record ShardStep (old : Sharded) (k : ℕ) (move : Move) (new : Sharded) : Type 0 where
  -- its world goes on as a world does that has the device alone
  pub moves : WorldStep (world_of old k) move (world_of new k)
  -- no other shard changes, and no block that is not its own
  pub others : (j : ℕ) → j ≢ k → new.shard j ≡ old.shard j
  pub elsewhere : (b : ℕ) → IsElsewhere old k b → slice_get new.device b ≡ slice_get old.device b
  pub blocks : new.blocks ≡ old.blocks

-- ---- runs of all shards

-- a turn: the shard that makes a step, its move, and what it leaves
pub record Turn : Type 0 where
  pub shard : ℕ
  pub move : Move
  pub after : Sharded

abbrev pub ShardedRun : Sharded → List Turn → Type 0
ShardedRun s [] = Unit {0}
ShardedRun s (step ∷ steps) = ShardStep s step.shard step.move step.after × ShardedRun step.after steps

-- what is left at the end
abbrev pub left : Sharded → List Turn → Sharded
left s [] = s
left s (step ∷ steps) = left step.after steps

-- and after n steps
abbrev pub sharded_at : Sharded → List Turn → ℕ → Sharded
sharded_at s steps n = left s (take n steps)

-- ---- the run of one shard

-- the steps of shard k, in their order, each with the shard's world after it
abbrev pub steps_of : ℕ → List Turn → Steps
steps_of k [] = []
steps_of k (step ∷ steps) =
    if step.shard == k then (step.move, world_of step.after k) ∷ steps_of k steps else steps_of k steps

-- how many of the first n steps are shard k's: the moment of its own run
abbrev pub moment_of : ℕ → List Turn → ℕ → ℕ
moment_of k steps n = length (steps_of k (take n steps))

-- what holds of every shard, in every run of all shards, whose world was a first one. Of the other shards nothing is asked
abbrev pub EveryShard : (Sharded → List Turn → ℕ → Type 0) → Type 0
EveryShard Holds =
    (s : Sharded) (steps : List Turn) (k : ℕ) → ShardedRun s steps → IsFirst (world_of s k) → Holds s steps k
