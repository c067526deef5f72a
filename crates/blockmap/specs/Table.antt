-- The table of held blocks.
use Rattle.std.specs.Prelude.{◌≡◌, ℕ, Bool, ◌≤◌, List, [], ◌∷◌, length, None, map as map_list}
use Rattle.std.specs.Ordering.{nat_cmp}
use Rattle.std.specs.FinMap as map
use Rattle.blockmap.specs.declared.held.Held.{Held}

abbrev pub pairs : List Held → List (ℕ × Bool)
pairs table = map_list (λ h. (h.block, h.is_cut)) table

-- the held blocks, each with whether it was cut
abbrev pub held_of : List Held → map.FinMap nat_cmp Bool
held_of table = map.from_entries (pairs table)

-- no block stands twice
abbrev pub IsDistinct : List Held → Type 0
IsDistinct [] = Unit {0}
IsDistinct (h ∷ table) = (map.find nat_cmp h.block (pairs table) ≡ None) × IsDistinct table

-- no block stands twice, and there is room for these
pub record IsTable (table : List Held) : Type 0 where
  pub distinct : IsDistinct table
  pub room : length table ≤ 64
