-- The bytes of blocks.
use Rattle.std.specs.Prelude.{ℕ, zero, suc, List, [], ◌∷◌, take, drop, replicate, slice_index_or}

-- the bytes of a block
abbrev pub block_at : List (List ℕ) → ℕ → List ℕ
block_at blocks b = slice_index_or blocks b []

-- blocks of one size
pub record Grid : Type 0 where
  pub size : ℕ
  pub blocks : List (List ℕ)

-- blocks of zeros
abbrev pub zero_blocks : ℕ → ℕ → List (List ℕ)
zero_blocks size count = replicate count (replicate size 0)

-- bytes, cut into `count` blocks
abbrev pub blocks_of : ℕ → ℕ → List ℕ → List (List ℕ)
blocks_of size zero bytes = []
blocks_of size (suc count) bytes = take size bytes ∷ blocks_of size count (drop size bytes)
