-- Inside this crate: entries in strictly rising order of their keys.
use Rattle.std.specs.Prelude.{ℕ, ◌+◌, ◌≤◌, List, [], ◌∷◌}

-- the keys rise strictly, from `low` on and below `high`
abbrev pub IsRising : {X : Type 0} → ℕ → List (ℕ × X) → ℕ → Type 0
IsRising low [] high = low ≤ high
IsRising low (e ∷ es) high = (low ≤ e.0) × IsRising (e.0 + 1) es high
