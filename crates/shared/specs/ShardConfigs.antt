-- What a cache of shards may be made of.
use Rattle.std.specs.Prelude.{◌&&◌, ◌==◌, ◌||◌, ℕ, Bool, true, false, not, List, [], ◌∷◌, length, nat_le, nat_lt}
use Rattle.std.specs.List.{list_all}
use Rattle.catalog.specs.Cataloged.{Cataloged, fits}
use Rattle.pc_types.specs.Limits.{Sizes}

-- whether the name is among these
abbrev pub is_among : ℕ → List ℕ → Bool
is_among name [] = false
is_among name (n ∷ ns) = (n == name) || is_among name ns

abbrev pub are_distinct : List ℕ → Bool
are_distinct [] = true
are_distinct (n ∷ ns) = not (is_among n ns) && are_distinct ns

-- 1 to 16 shards with different names, each with a catalog for a cache of these sizes, and 1 to 64 seats
abbrev pub is_config : Sizes → List ℕ → List Cataloged → ℕ → Bool
is_config sizes names catalogs seats =
    nat_lt 0 (length names) && nat_le (length names) 16 && are_distinct names && list_all (fits sizes) catalogs
    && nat_lt 0 seats && nat_le seats 64
