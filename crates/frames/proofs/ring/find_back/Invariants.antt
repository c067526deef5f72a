use Rattle.std.proofs.Common.{◌≡◌, ℕ, ◌-◌, true, Option}
use Rattle.frames.specs.Lists.{has, IsFirstPassing}
use Rattle.frames.specs.Rings.{walk_back, prev_of}
use Rattle.frames.proofs.ring.find_back.Given as goal

abbrev pub invariant-loop-passed : goal.invariant-loop-passed
invariant-loop-passed g l = record {
  answers : (r : Option ℕ) → IsFirstPassing (λ f a. goal.F-post g l.test (record { 0 = f }) a) (walk_back l.links (l.len - l.passed) l.at) r → IsFirstPassing (λ f a. goal.F-post g l.test (record { 0 = f }) a) (walk_back l.links l.len (prev_of l.links l.head)) r;
  members : (f : ℕ) → has f (walk_back l.links (l.len - l.passed) l.at) ≡ true → has f (walk_back l.links l.len (prev_of l.links l.head)) ≡ true;
}
