-- The loan of a row.
use Rattle.std.specs.Prelude.{ℕ, List}
use Rattle.std.specs.Borrow.{Lends, MutBor, Fml, Array, u8}
use Rattle.frames.specs.contracts.rows.Rows.{the_row}
use Rattle.frames.specs.Rows.{Grid, with_row}

-- the rows end with the bytes that the slice was left with in row f
abbrev pub LendsRow : MutBor Grid → ℕ → MutBor (List ℕ) → Fml
LendsRow s f r = Lends the_row (Array u8 0) s r (λ bytes. record { size = s.now.size; rows = with_row s.now.size s.now.rows f bytes })
