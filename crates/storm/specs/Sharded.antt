-- Copies of the device of a shard.
use Rattle.std.specs.Prelude.{◌≡◌, true, is_some}
use Rattle.pc_types.specs.Limits.{Sizes}
use Rattle.playback.specs.declared.verdict.Copies.{Copies}
use Rattle.world.specs.Stepping.{fits}

-- they are devices for a cache of these sizes, and their blocks are known
abbrev pub AreFor : Sizes → Copies → Type 0
AreFor g c = (fits g c.one ≡ true) × (fits g c.other ≡ true) × (is_some c.one.contents ≡ true) × (is_some c.other.contents ≡ true)
