use Rattle.std.proofs.Common.{◌≡◌, ℕ, ◌+◌, ◌-◌, ◌≤◌, Bool, count_by}
use Rattle.std.specs.List.{range_with_len}
use Rattle.pagestore.specs.Counts.{Tells}
use Rattle.pagestore.proofs.counts.has_more.Given as goal

abbrev pub invariant-loop-spare : goal.invariant-loop-spare
invariant-loop-spare g l = record {
  begun : l.first ≤ l.page;
  within : l.page ≤ l.end;
  counted : (passes : ℕ → Bool) → Tells (λ p a. goal.F-post g l.test p a) l.first l.end passes
      → l.room + count_by passes (range_with_len l.page (l.end - l.page)) ≡ l.spare + count_by passes (range_with_len l.first (l.end - l.first));
}

abbrev pub decreases-loop-spare : goal.decreases-loop-spare
decreases-loop-spare g l = l.end - l.page
