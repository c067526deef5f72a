-- The only file of a device, as one extent from block 0 on. Its first n pages have blocks, page p block p. The pages from n on are
-- holes, or past its end.
use Rattle.std.specs.Prelude.{◌≡◌, ℕ, ◌<◌, ◌&&◌, ◌==◌, nat_lt, if◌then◌else◌, Some, None}
use Rattle.std.specs.FinMap as map
use Rattle.machine.specs.State.{State, Request, block_at}

-- page p of file f has block p, for p below n, and no other page of any file has a block
abbrev pub IsOneExtent : State → ℕ → ℕ → Type 0
IsOneExtent s f n = (g p : ℕ) → block_at s g p ≡ (if g == f && nat_lt p n then Some p else None)

-- a request in flight holds block b
abbrev pub IsHeld : State → ℕ → Type 0
IsHeld s b = (t : ℕ) × (x : Request) × (map.get s.requests t ≡ Some x) × (x.block ≡ b)

-- and no other block is held. (A request of a page that was cut off holds the page's old block until it ends)
pub record IsContiguous (s : State) (f n : ℕ) : Type 0 where
  pub extent : IsOneExtent s f n
  pub held : (b : ℕ) → IsHeld s b → b < n
