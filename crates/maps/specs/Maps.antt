-- Finite maps of which many values change at once, or one where it is there.
use Rattle.std.specs.Prelude.{ℕ, List, ◌++◌, map, filter_map, Option, Some, None, option_map}
use Rattle.std.specs.declared.cmp.Ordering.{Ordering}
use Rattle.std.specs.Ordering.{nat_cmp}
use Rattle.std.specs.FinMap as map

-- the map with these entries, and elsewhere as it was
abbrev pub overwrite : {K X : Type 0} {R : K → K → Ordering} → List (K × X) → map.FinMap R X → map.FinMap R X
overwrite es mp = map.from_entries (es ++ map.entries mp)

-- each value of the map changed, by its key
abbrev pub each_value : {K X : Type 0} {R : K → K → Ordering} → (K → X → X) → map.FinMap R X → map.FinMap R X
each_value g mp = map.from_entries (map (λ e. (e.0, g e.0 e.1)) (map.entries mp))

-- the map with this value at the key, where one is given
abbrev pub put_some : {X : Type 0} → ℕ → Option X → map.FinMap nat_cmp X → map.FinMap nat_cmp X
put_some k None mp = mp
put_some k (Some v) mp = map.insert mp k v

-- the value at one key changed, where the map has one
abbrev pub change_at : {X : Type 0} → ℕ → (X → X) → map.FinMap nat_cmp X → map.FinMap nat_cmp X
change_at k g mp = put_some k (option_map g (map.get mp k)) mp

-- of the values for which the function gives one, what it gives
abbrev pub filter_map_values : {X Y : Type 0} → (X → Option Y) → map.FinMap nat_cmp X → map.FinMap nat_cmp Y
filter_map_values g mp = map.from_entries (filter_map (λ e. option_map (λ y. (e.0, y)) (g e.1)) (map.entries mp))
