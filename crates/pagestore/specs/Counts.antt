-- Tests of numbers.
use Rattle.std.specs.Prelude.{◌≡◌, ℕ, ◌<◌, ◌≤◌, Bool}

-- a test that answers so tells of each number from `first` up to `end` whether it passes
abbrev pub Tells : (ℕ → Bool → Type 0) → ℕ → ℕ → (ℕ → Bool) → Type 0
Tells answers first end passes = (n : ℕ) (answer : Bool) → first ≤ n → n < end → answers n answer → answer ≡ passes n
