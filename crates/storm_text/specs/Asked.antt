-- What the words after `storm` and `shards` ask for.
use Rattle.std.specs.Prelude.{◌≡◌, ◌<◌, ◌≤◌, ℕ, List, [], ◌∷◌, Some, None}
use denote.Ref.{Bor}
use Rattle.textline.specs.Words.{IsNumber}
use Rattle.storm_text.specs.declared.options.Options.{Options}
use Rattle.storm_text.specs.declared.options.ShardOptions.{ShardOptions}

-- the word is this number, from 1 to the most
abbrev pub IsNumberUpTo : ℕ → List ℕ → ℕ → Type 0
IsNumberUpTo most word n = IsNumber word n × (0 < n) × (n ≤ most)

-- THREADS STEPS [PATH]
abbrev pub AsksFor : List (Bor (List ℕ)) → Options → Type 0
AsksFor (threads ∷ steps ∷ []) o = IsNumberUpTo 16 threads.now o.threads × IsNumberUpTo 1000 steps.now o.steps × (o.path ≡ None)
AsksFor (threads ∷ steps ∷ path ∷ []) o = IsNumberUpTo 16 threads.now o.threads × IsNumberUpTo 1000 steps.now o.steps × (o.path ≡ Some path)
AsksFor words o = ⊥

-- SHARDS THREADS STEPS
abbrev pub AsksForShards : List (Bor (List ℕ)) → ShardOptions → Type 0
AsksForShards (shards ∷ threads ∷ steps ∷ []) o = IsNumberUpTo 16 shards.now o.shards × IsNumberUpTo 16 threads.now o.threads × IsNumberUpTo 1000 steps.now o.steps
AsksForShards words o = ⊥
