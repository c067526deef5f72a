-- The bytes of frames, one row a frame.
use Rattle.std.specs.Prelude.{ℕ, zero, suc, List, [], ◌∷◌, ◌++◌, ◌+◌, ◌-◌, ◌*◌, length, take, drop, replicate, slice_index_or}

-- the bytes of a frame
abbrev pub row_at : List (List ℕ) → ℕ → List ℕ
row_at rows f = slice_index_or rows f []

-- rows of one size
pub record Grid : Type 0 where
  pub size : ℕ
  pub rows : List (List ℕ)

-- rows of zeros
abbrev pub zero_rows : ℕ → ℕ → List (List ℕ)
zero_rows size count = replicate count (replicate size 0)

-- bytes from `at` on, and zeros around them
abbrev pub laid : ℕ → ℕ → List ℕ → List ℕ
laid size at bytes = replicate at 0 ++ bytes ++ replicate (size - (at + length bytes)) 0

-- bytes, cut into `count` rows
abbrev pub rows_of : ℕ → ℕ → List ℕ → List (List ℕ)
rows_of size zero bytes = []
rows_of size (suc count) bytes = take size bytes ∷ rows_of size count (drop size bytes)

-- rows, one after another
abbrev pub joined : List (List ℕ) → List ℕ
joined [] = []
joined (row ∷ rows) = row ++ joined rows

-- rows with bytes written over them from the start of row f on. A slice keeps its length, so one that was lent changes
-- its own row and no other
abbrev pub with_row : ℕ → List (List ℕ) → ℕ → List ℕ → List (List ℕ)
with_row size rows f bytes = rows_of size (length rows) (take (f * size) (joined rows) ++ (bytes ++ drop (length bytes) (drop (f * size) (joined rows))))
