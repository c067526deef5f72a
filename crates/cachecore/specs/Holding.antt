-- Inside this crate: which blocks the requests in flight hold.
use Rattle.std.specs.Prelude.{◌≡◌, ℕ, Bool, Some}
use Rattle.std.specs.Ordering.{nat_cmp}
use Rattle.std.specs.FinMap.{FinMap, get, len}
use Rattle.machine.specs.State.{Request}

-- Each request holds its block, and the block is cut where the request is dropped. No other block is held, and no block
-- by two requests.
pub record Holds (held : FinMap nat_cmp Bool) (requests : FinMap nat_cmp Request) : Type 0 where
  pub held_is : (t : ℕ) (r : Request) → get requests t ≡ Some r → get held r.block ≡ Some r.dropped
  pub holder : (b : ℕ) (is_cut : Bool) → get held b ≡ Some is_cut
      → (t : ℕ) × (r : Request) × (get requests t ≡ Some r) × (r.block ≡ b)
  pub alone : (t u : ℕ) (r q : Request) → get requests t ≡ Some r → get requests u ≡ Some q → r.block ≡ q.block → t ≡ u
  pub counted : len held ≡ len requests
