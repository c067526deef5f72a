-- Inside this crate: which pages of a write are cached, and the blocks that its pages take.
use Rattle.std.specs.Prelude.{◌≡◌, ◌+◌, ◌-◌, ◌/◌, ◌<◌, ◌≤◌, ℕ, Bool, true, not, List, map, filter, is_some}
use Rattle.std.specs.List.{zip}
use Rattle.std.specs.FinMap.{get}
use Rattle.maps.specs.Maps.{overwrite}
use Rattle.blockmap.specs.Blocks.{Blocks, Spots, free_blocks}
use Rattle.machine.specs.State.{State}
use Rattle.pagestore.specs.Ranges.{AreFlags}

-- the flags that are set are those of the cached pages of file f that n bytes at o touch
abbrev pub AreFlagged : List Bool → State → ℕ → ℕ → ℕ → Type 0
AreFlagged flags s f o n = AreFlags flags s.files f (o / s.sizes.page) ((o + n - 1) / s.sizes.page + 1)

-- whether page p of file f has no block
abbrev pub is_bare : Blocks → ℕ → ℕ → Bool
is_bare b f p = not (is_some (get b.spots (f, p)))

-- a page from `first` up to `end` has no block
pub record HasBare (f first end : ℕ) (b : Blocks) : Type 0 where
  pub page : ℕ
  pub from : first ≤ page
  pub before : page < end
  pub bare : is_bare b f page ≡ true

-- the k-th of these pages that has no block takes the k-th free block, of which no byte is the page's yet
abbrev pub placed_on : Blocks → ℕ → List ℕ → Spots
placed_on b f pages =
    let blocks = zip (filter (is_bare b f) pages) (free_blocks b) in
    overwrite (map (λ e. ((f, e.0), record { block = e.1; valid = 0 })) blocks) b.spots

-- the blocks after that
abbrev pub with_placed : Blocks → ℕ → List ℕ → Blocks
with_placed b f pages = record b { spots = placed_on b f pages }
