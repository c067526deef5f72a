-- Bytes of a file that stand in chunks of 4096. A chunk has its first bytes; past them, and in a chunk that is not
-- there, stand zeros.
use Rattle.std.specs.Prelude.{◌≡◌, ℕ, zero, suc, ◌+◌, ◌-◌, ◌<◌, ◌/◌, ◌%◌, ◌&&◌, List, [], ◌∷◌, length, slice_index_or}
use Rattle.std.specs.Prelude.{nat_le, nat_lt, Option, Some, None, if◌then◌else◌, Vec}
use Rattle.std.specs.Ordering.{nat_cmp}
use Rattle.std.specs.declared.alloc.Global.{Global}
use Rattle.std.specs.BTreeMap.{BTreeMap}
use Rattle.std.specs.BTreeMap as tree

abbrev pub Chunks : Type 0
Chunks = BTreeMap ℕ (Vec ℕ Global)

-- the bytes of a chunk
abbrev pub chunk_bytes : Option (Vec ℕ Global) → List ℕ
chunk_bytes None = []
chunk_bytes (Some chunk) = chunk.items

-- the byte at a place of the file
abbrev pub byte_at : Chunks → ℕ → ℕ
byte_at chunks i = slice_index_or (chunk_bytes (tree.get nat_cmp chunks (i / 4096))) (i % 4096) 0

-- n bytes, from one on
abbrev pub bytes_from : (ℕ → ℕ) → ℕ → ℕ → List ℕ
bytes_from byte i zero = []
bytes_from byte i (suc n) = byte i ∷ bytes_from byte (i + 1) n

-- these bytes stand there
abbrev pub Stands : Chunks → ℕ → List ℕ → Type 0
Stands chunks offset bytes = (k : ℕ) → k < length bytes → slice_index_or bytes k 0 ≡ byte_at chunks (offset + k)

-- these bytes stand in a list that ends with zeros
abbrev pub StandsIn : List ℕ → ℕ → List ℕ → Type 0
StandsIn chunk start bytes = (k : ℕ) → k < length bytes → slice_index_or bytes k 0 ≡ slice_index_or chunk (start + k) 0

-- a byte after these were put in place from the offset on
abbrev pub byte_put : Chunks → ℕ → List ℕ → ℕ → ℕ
byte_put chunks offset bytes i =
    if nat_le offset i && nat_lt i (offset + length bytes) then slice_index_or bytes (i - offset) 0
    else byte_at chunks i

-- a byte after those from the size on were forgotten
abbrev pub byte_cut : Chunks → ℕ → ℕ → ℕ
byte_cut chunks size i = if nat_lt i size then byte_at chunks i else 0
