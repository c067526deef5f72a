-- Where the caches of the shards lie.
use Rattle.std.specs.Prelude.{◌≡◌, ◌<◌, ℕ, [], Vec, vec_capacity}

-- nothing, with room for the cache of this shard where there are so many
abbrev pub IsRoom : {X Z : Type 0} → ℕ → ℕ → Vec X Z → Type 0
IsRoom k shards v = (v.items ≡ []) × (k < shards → 0 < vec_capacity v)
