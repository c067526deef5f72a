-- Blocks whose deeds are all at home.
use Rattle.std.proofs.Common.{◌≡◌, ℕ, zero, suc, ◌<◌, refl, replicate, arith}
use Rattle.std.specs.Prelude.{slice_get, Some}

pub at_replicate : {A : Type 0} (n k : ℕ) (x : A) → k < n → slice_get (replicate n x) k ≡ Some x
at_replicate zero k x h = absurd (omega arith)
at_replicate (suc n) zero x h = refl
at_replicate (suc n) (suc k) x h = at_replicate n k x (omega arith)
