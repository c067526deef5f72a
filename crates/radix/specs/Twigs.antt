-- What a walk keeps of a node of the lowest level and of the node above it.
use Rattle.std.specs.Prelude.{◌≡◌, ◌≢◌, ℕ, ◌+◌, ◌*◌, ◌/◌, ◌%◌, ◌<◌, Some}
use Rattle.slab.specs.Slab.{Slab, get}
use Rattle.radix.specs.declared.node.Node.{Node}
use Rattle.radix.specs.declared.entry.Rest.{Rest}
use Rattle.radix.specs.declared.entry.Twig.{Twig}
use Rattle.radix.specs.Bitmap.{AreFrom, IsLowestFrom}
use Rattle.radix.specs.Entries.{IsNext, bits}

-- the mark of the entries that a walk is for: 0 to 2, or 3 where it is for all
abbrev pub mark_of : Twig → ℕ
mark_of t = t.mark

-- the node under a key, which is at this place, and those of its slots with the mark that come from an offset on
pub record IsRest (s : Slab Node) (mark key level prefix from : ℕ) (r : Rest) : Type 0 where
  pub there : get s key ≡ Some r.node.now
  pub level_is : r.node.now.level ≡ level
  pub prefix_is : r.node.now.prefix ≡ prefix
  pub bits_are : AreFrom (bits r.node.now mark) from r.bits

-- what is left of the node above, if anything is
abbrev pub IsLeftAbove : Slab Node → ℕ → ℕ → Rest → Type 0
IsLeftAbove s mark prefix r = 0 < r.bits → (key : ℕ) × IsRest s mark key 1 (prefix / 64) (prefix % 64 + 1) r

-- a walk goes on at an index, which comes right after a slot of the twig's node
pub record IsTwig (s : Slab Node) (from : ℕ) (t : Twig) : Type 0 where
  pub prefix : ℕ
  pub offset : ℕ
  pub within : offset < 64
  pub after : from ≡ prefix * 64 + offset + 1
  pub base_is : t.base ≡ prefix * 64
  pub known : t.mark < 4
  pub leaf : IsRest s t.mark t.key 0 prefix (offset + 1) t.leaf
  pub above : IsLeftAbove s t.mark prefix t.above

-- the next entry at an index or later is the first that is left of the twig's node
pub record IsAimed (s : Slab Node) (from : ℕ) (t : Twig) : Type 0 where
  pub prefix : ℕ
  pub start : ℕ
  pub base_is : t.base ≡ prefix * 64
  pub known : t.mark < 4
  pub some : 0 < t.leaf.bits
  pub leaf : IsRest s t.mark t.key 0 prefix start t.leaf
  pub next : (o : ℕ) → IsLowestFrom t.leaf.bits 0 o → IsNext s t.mark from 0 (prefix * 64 + o)
  pub above : IsLeftAbove s t.mark prefix t.above
