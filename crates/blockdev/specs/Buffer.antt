-- The loan of a buffer's bytes.
use Rattle.std.specs.Prelude.{ℕ, List, ◌++◌, length, take, drop}
use Rattle.std.specs.Borrow.{Lends, MutBor, Fml, Array, u8}
use Rattle.blockdev.specs.contracts.buffer.Buffer.{the_row}

-- the bytes, with others written over them from the first on. A slice keeps its length, so these are all of them
abbrev pub written_over : List ℕ → List ℕ → List ℕ
written_over old bytes = take (length old) (bytes ++ drop (length bytes) old)

-- the buffer ends with the bytes that the slice was left with
abbrev pub LendsBytes : MutBor (List ℕ) → MutBor (List ℕ) → Fml
LendsBytes b r = Lends the_row (Array u8 0) b r (written_over b.now)
