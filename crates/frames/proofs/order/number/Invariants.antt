use Rattle.std.proofs.Common.{◌≡◌, ℕ, ◌<◌, ◌≤◌, get_or}
use Rattle.frames.proofs.order.number.Given as goal

abbrev pub invariant-loop-place : goal.invariant-loop-place
invariant-loop-place l = record {
  numbers : (k : ℕ) → k < l.place → get_or l.numbers k 0 ≡ k;
  others : (k : ℕ) → l.place ≤ k → get_or l.numbers k 0 ≡ get_or l.fn.numbers k 0;
}
