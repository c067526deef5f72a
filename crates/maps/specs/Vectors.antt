-- A vector with a place for each number as a finite map: of the places that have a value, each with it.
use Rattle.std.specs.Prelude.{ℕ, ◌+◌, List, [], ◌∷◌, Option, Some, None}
use Rattle.std.specs.Ordering.{nat_cmp}
use Rattle.std.specs.FinMap as map

-- where the first place has the number n
abbrev pub entries_from : {X : Type 0} → ℕ → List (Option X) → List (ℕ × X)
entries_from n [] = []
entries_from n (Some x ∷ xs) = (n, x) ∷ entries_from (n + 1) xs
entries_from n (None ∷ xs) = entries_from (n + 1) xs

abbrev pub by_place : {X : Type 0} → List (Option X) → map.FinMap nat_cmp X
by_place xs = map.from_entries (entries_from 0 xs)
