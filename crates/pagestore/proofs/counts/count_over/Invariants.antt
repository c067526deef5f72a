use Rattle.std.proofs.Common.{◌≡◌, ℕ, ◌+◌, ◌-◌, ◌≤◌, Bool, count_by, ◌⊎◌}
use Rattle.std.specs.List.{range_with_len}
use Rattle.pagestore.specs.Counts.{Tells}
use Rattle.pagestore.proofs.counts.count_over.Given as goal

abbrev pub invariant-loop-spare : goal.invariant-loop-spare
invariant-loop-spare g l = record {
  begun : l.first ≤ l.page;
  within : l.page ≤ l.end;
  few : l.over + l.first ≤ l.page;
  one : (l.over ≡ 0) ⊎ (l.spare ≡ 0);
  counted : (passes : ℕ → Bool) → Tells (λ p a. goal.F-post g l.test p a) l.first l.end passes
      → l.room + l.over + count_by passes (range_with_len l.page (l.end - l.page)) ≡ l.spare + count_by passes (range_with_len l.first (l.end - l.first));
}

abbrev pub decreases-loop-spare : goal.decreases-loop-spare
decreases-loop-spare g l = l.end - l.page
