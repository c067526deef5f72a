-- What a storm prints, and the status that it ends with.
use Rattle.std.specs.Prelude.{◌≡◌, ◌⊎◌, ◌*◌, ◌+◌, ◌++◌, ◌==◌, ◌&&◌, ℕ, Bool, true, false, List, [], ◌∷◌, Option, Result, Ok, Err}
use Rattle.std.specs.Prelude.{codes, decimal, if◌then◌else◌, ◌<◌, ◌-◌, ◌^◌, min, slice_index_or}
use Rattle.std.specs.List.{list_all}
use Rattle.std.specs.Io.KnownBytes.{Appends, Keeps}
use denote.Ref.{Bor}
use Rattle.textline.specs.Prints.{AppendsPart, ended}
use Rattle.storm_text.specs.Asked.{AsksFor, AsksForShards}
use Rattle.storm_text.specs.declared.findings.Findings.{Findings}
use Rattle.storm_text.specs.declared.findings.Keeping.{Keeping}
use Rattle.storm_text.specs.declared.findings.Keeping.TheVariants.{Kept, Lost, Odd, Unplayed}
use Rattle.storm_text.specs.declared.options.Options.{Options}
use Rattle.storm_text.specs.declared.options.ShardOptions.{ShardOptions}
use Rattle.storm_text.specs.declared.told.Fault.{Fault}
use Rattle.storm_text.specs.declared.told.Fault.TheVariants.{Device, Memory}

-- how the program is called
abbrev pub usage_line : List ℕ
usage_line = ended (codes "pcache: usage: pcache run | pcache storm THREADS STEPS [PATH] | pcache torture SEED ROUNDS | pcache over PATH SIZE | pcache shards SHARDS THREADS STEPS")

abbrev pub calls_text : ℕ → List ℕ
calls_text calls = codes "calls " ++ decimal calls

abbrev pub replay_text : Bool → List ℕ
replay_text replays = if replays then codes "replay yes" else codes "replay no"

-- ---- the refusals

-- how often by each number of two counts together, up to the greatest number of 64 bits
abbrev pub AreAdded : List ℕ → List ℕ → List ℕ → Type 0
AreAdded one other both =
    (place : ℕ) → place < 24
    → slice_index_or both place 0 ≡ min (slice_index_or one place 0 + slice_index_or other place 0) (2 ^ 64 - 1)

-- a refusal that occurred, by its number, and how often
abbrev pub counted : ℕ → ℕ → List ℕ
counted number times = if times == 0 then [] else codes " " ++ decimal number ++ codes ":" ++ decimal times

-- those that occurred, from this number on
abbrev pub counted_from : ℕ → List ℕ → List ℕ
counted_from number [] = []
counted_from number (times ∷ more) = counted number times ++ counted_from (number + 1) more

abbrev pub no_times : List ℕ → Bool
no_times times = list_all (λ n. n == 0) times

abbrev pub refused_text : List ℕ → List ℕ
refused_text times = codes "refused" ++ (if no_times times then codes " none" else counted_from 1 times)

-- ---- the device

abbrev pub device_text : Keeping → List ℕ
device_text Kept = codes "device yes"
device_text (Lost block) = codes "device no " ++ decimal block
device_text (Odd place) = codes "device odd " ++ decimal place
device_text Unplayed = codes "device unplayed"

-- nothing was found that an honest device does not do
abbrev pub is_kept : Keeping → Bool
is_kept (Lost block) = false
is_kept (Odd place) = false
is_kept device = true

-- ---- the whole

abbrev pub lines_left : Findings → List ℕ
lines_left f = ended (refused_text f.refused.times) ++ ended (device_text f.device)

abbrev pub lines_found : Findings → List ℕ
lines_found f = ended (replay_text f.replays) ++ lines_left f

-- how many calls were made, whether the history replays, by what calls were refused, and whether the device kept its blocks
abbrev pub lines_told : ℕ → Findings → List ℕ
lines_told calls f = ended (calls_text calls) ++ lines_found f

abbrev pub are_well : Findings → Bool
are_well f = f.replays && is_kept f.device

-- what a storm of so many calls came to is told, and the status is 0 where the history replays and the device kept its blocks, and 1
-- where not; or the output (3) or memory (4) failed, and a beginning of that was written
abbrev pub Tells : ℕ → Result Findings Fault → ℕ → Option (List ℕ) → Option (List ℕ) → Type 0
Tells calls (Ok f) status before after =
    ((status ≡ (if are_well f then 0 else 1)) × Appends before after (lines_told calls f))
    ⊎ (((status ≡ 3) ⊎ (status ≡ 4)) × AppendsPart before after (lines_told calls f))
Tells calls (Err Device) status before after = (status ≡ 3) × Keeps before after
Tells calls (Err Memory) status before after = (status ≡ 4) × Keeps before after

-- what a storm that these words ask for came to is told; where they ask for none nothing is printed, and the status is 2
abbrev pub StormTells : List (Bor (List ℕ)) → ℕ → Option (List ℕ) → Option (List ℕ) → Type 0
StormTells words status before after =
    ((o : Options) × (storm : Result Findings Fault) × AsksFor words o × Tells (o.threads * o.steps) storm status before after)
    ⊎ (((o : Options) → ¬ (AsksFor words o)) × (status ≡ 2) × Keeps before after)

-- the same of a storm over a cache of shards
abbrev pub ShardsTell : List (Bor (List ℕ)) → ℕ → Option (List ℕ) → Option (List ℕ) → Type 0
ShardsTell words status before after =
    ((o : ShardOptions) × (storm : Result Findings Fault) × AsksForShards words o × Tells (o.threads * o.steps) storm status before after)
    ⊎ (((o : ShardOptions) → ¬ (AsksForShards words o)) × (status ≡ 2) × Keeps before after)
