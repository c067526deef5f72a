-- What holds of the elements of a list from a number on.
use Rattle.std.proofs.Common.{◌≡◌, ◌<◌, ◌+◌, ℕ, zero, suc, List, [], ◌∷◌, length, slice_index_or, slice_set, subst, arith}
use Rattle.shared.specs.ShardWorkers.{AllFrom}

-- at one of them
pub from_at : {X : Type 0} (P : ℕ → X → Type 0) (k i : ℕ) (xs : List X) (d : X) → AllFrom P k xs → i < length xs
    → P (k + i) (slice_index_or xs i d)
from_at P k i [] d all less = absurd (omega (arith, less))
from_at P k zero (x ∷ xs) d all less = let e : k ≡ k + 0 = omega arith in subst (λ n. P n x) e all.0
from_at P k (suc i) (x ∷ xs) d all less =
    let e : (k + 1) + i ≡ k + suc i = omega arith in
    let less' : i < length xs = omega (arith, less) in
    subst (λ n. P n (slice_index_or xs i d)) e (from_at P (k + 1) i xs d all.1 less')

-- where it holds of what one of them becomes
pub from_set : {X : Type 0} (P : ℕ → X → Type 0) (k i : ℕ) (xs : List X) (y : X) → AllFrom P k xs → i < length xs → P (k + i) y
    → AllFrom P k (slice_set xs i y)
from_set P k i [] y all less p = absurd (omega (arith, less))
from_set P k zero (x ∷ xs) y all less p = let e : k + 0 ≡ k = omega arith in (subst (λ n. P n y) e p, all.1)
from_set P k (suc i) (x ∷ xs) y all less p =
    let e : k + suc i ≡ (k + 1) + i = omega arith in
    let less' : i < length xs = omega (arith, less) in
    (all.0, from_set P (k + 1) i xs y all.1 less' (subst (λ n. P n y) e p))
