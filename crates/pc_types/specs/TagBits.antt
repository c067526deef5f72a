-- The tags that the bits of a `Tags` stand for.
use Rattle.std.specs.Prelude.{ℕ, ◌==◌}
use Rattle.std.specs.Int.{bit_at}
use Rattle.pc_types.specs.declared.tags.Tags.{Tags}
use Rattle.pc_types.specs.Tags.{TagSet}

-- bit 0 is DIRTY, bit 1 WRITEBACK, bit 2 TOWRITE
unfoldable pub set_of_bits : ℕ → TagSet
set_of_bits n = record { dirty = bit_at n 0 == 1; writeback = bit_at n 1 == 1; towrite = bit_at n 2 == 1 }

abbrev pub tag_set : Tags → TagSet
tag_set t = set_of_bits t.0
