-- What each shard keeps, since its steps are a run.
use Rattle.std.proofs.Common.{◌≡◌, ◌∙◌, sym, ap, subst, refl, ℕ, zero, suc, ◌≤◌, Bool, true, false, if◌then◌else◌, length, take, arith, inl, inr, true≢false}
use Rattle.std.proofs.Math.Nat.{eq-or-lt_of_le}
use Rattle.std.proofs.lemmas.List.{take_all}
use Rattle.runs.specs.Durable.{last_flush}
use Rattle.runs.specs.Seen.{files_seen}
use Rattle.runs.specs.Reading.{HoldsFiles}
use Rattle.runs.specs.Runs.{Steps, EveryRun, last}
use Rattle.runs.specs.World.{World, Act, WorldStep}
use Rattle.machine.specs.declared.event.Event.TheVariants as event
use Rattle.machine.specs.declared.event.Reply.TheVariants as reply
use Rattle.runs.specs.Always.{Always}
use Rattle.runs.proofs.moments.AlwaysHold.{holds_always}
use Rattle.runs.proofs.moments.FilesHeld.{files_are_held}
use Rattle.runs.proofs.moments.FilesSeen.{files_are_those}
use Rattle.runs.proofs.moments.ReadsRight.{reads_are_right}
use Rattle.runs.proofs.syncs.SyncRuns.{syncs_are_synced}
use Rattle.sharded.specs.Shards.{EveryShard, world_of, steps_of, moment_of}
use Rattle.sharded.specs.Promises.{ShardFilesAreThose, ShardReadsAreRight, ShardSyncsAreDurable, ShardSyncsAreSynced, ShardsHoldAlways, ShardsHoldFiles, plain_of}
use Rattle.sharded.proofs.ShardRuns.{shards_are_runs, leads, moments_rise, moment_end}

-- what holds of every run holds of each shard's
of_shard : (Holds : World → Steps → Type 0) → EveryRun Holds → EveryShard (λ s steps k. Holds (world_of s k) (steps_of k steps))
of_shard Holds every s steps k r first = every (world_of s k) (steps_of k steps) first (shards_are_runs s steps k r).run

pub shard_reads_are_right : ShardReadsAreRight
shard_reads_are_right s steps k r first new h o n b step =
    let P : World → Type 0 = λ w. WorldStep w (Act (event.Read h o n) (reply.Bytes b)) new in
    of_shard _ reads_are_right s steps k r first new h o n b (subst P (leads s steps k r) step)

pub shards_hold_files : ShardsHoldFiles
shards_hold_files s steps k r first =
    let own = steps_of k steps in
    let all : take (length own) own ≡ own = take_all (length own) own (omega arith) in
    let P : World → Type 0 = λ w. HoldsFiles w (plain_of s k steps) in
    let Q : Steps → Type 0 = λ own. HoldsFiles (last (world_of s k) own) (plain_of s k steps) in
    let held = of_shard _ files_are_held s steps k r first (length (steps_of k steps)) in
    subst P (sym (leads s steps k r)) (subst Q all held)

pub shards_hold_always : ShardsHoldAlways
shards_hold_always s steps k r first =
    let own = steps_of k steps in
    let all : take (length own) own ≡ own = take_all (length own) own (omega arith) in
    let P : Steps → Type 0 = λ own. Always (last (world_of s k) own) in
    let Q : World → Type 0 = λ w. Always w in
    subst Q (sym (leads s steps k r)) (subst P all (of_shard _ holds_always s steps k r first (length own)))

pub shard_files_are_those : ShardFilesAreThose
shard_files_are_those s steps k r first =
    ap (λ (w : World). files_seen w) (leads s steps k r) ∙ of_shard _ files_are_those s steps k r first

pub shard_syncs_are_synced : ShardSyncsAreSynced
shard_syncs_are_synced s steps k r first = of_shard _ syncs_are_synced s steps k r first

-- ---- flushes of the one device

module _ (flushed : ℕ → Bool) where
  -- the last good flush is no earlier than any up to then
  from : (k n : ℕ) → flushed k ≡ true → k ≤ n → k ≤ last_flush flushed n
  from k zero well within = within
  from k (suc n) well within = by (λ before. from k n well before) (flushed (suc n)) refl
    where
      by : (k ≤ n → k ≤ last_flush flushed n) → (b : Bool) → flushed (suc n) ≡ b
          → k ≤ (if b then suc n else last_flush flushed n)
      by earlier true is = within
      by earlier false is = elim (eq-or-lt_of_le within) [
        | inl same ↦ absurd (true≢false (sym well ∙ ap flushed same ∙ is))
        | inr less ↦ earlier (omega (arith, less))
      ]

pub shard_syncs_are_durable : ShardSyncsAreDurable
shard_syncs_are_durable s steps k r first flushed a j m n sync well after within small =
    let at = last_flush flushed n in
    let later = moments_rise k steps m at (from flushed m n well within) in
    of_shard _ syncs_are_synced s steps k r first a j (moment_of k steps at) sync (omega (arith, after, later)) (moment_end k steps at)
