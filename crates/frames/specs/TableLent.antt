-- The loan of a frame's bytes.
use Rattle.std.specs.Prelude.{ℕ, List}
use Rattle.std.specs.Borrow.{Lends, MutBor, Fml, Array, u8}
use Rattle.frames.specs.contracts.frames.Frames.{the_row}
use Rattle.frames.specs.Rows.{with_row}
use Rattle.frames.specs.Table.{Table}

-- the table ends with the bytes that the slice was left with in frame f
abbrev pub LendsFrame : MutBor Table → ℕ → MutBor (List ℕ) → Fml
LendsFrame s f r = Lends the_row (Array u8 0) s r (λ bytes. record s.now { bytes = with_row s.now.size s.now.bytes f bytes })
