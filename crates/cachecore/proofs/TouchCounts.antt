-- How many of a row of pages pass a test.
use Rattle.std.proofs.Common.{◌≡◌, ℕ, ◌≤◌, Bool, arith}
use Rattle.std.specs.Prelude.{count_by}
use Rattle.std.specs.List.{range_with_len}
use Rattle.std.proofs.lemmas.List.FromFn.{length-range_with_len}
use Rattle.std.proofs.lemmas.List.Sums.{count_by-le-length}

pub count_below : (k a n : ℕ) (test : ℕ → Bool) → k ≡ count_by test (range_with_len a n) → k ≤ n
count_below k a n test e = let l = length-range_with_len a n in let m = count_by-le-length test (range_with_len a n) in
    omega arith
