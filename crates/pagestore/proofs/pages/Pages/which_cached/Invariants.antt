use Rattle.std.proofs.Common.{◌≡◌, ◌+◌, ◌-◌, ◌≤◌, ℕ, false, length}
use Rattle.std.specs.Prelude.{◌&&◌, is_some, nat_lt, slice_index_or}
use Rattle.pc_types.specs.declared.limits.TheConstants.{MAX_TOUCHED}
use Rattle.pagestore.specs.Store.{stored_page}
use Rattle.pagestore.proofs.pages.Pages.which_cached.Given as goal

abbrev pub invariant-loop-page : goal.invariant-loop-page
invariant-loop-page l = record {
  size : length l.cached ≡ MAX_TOUCHED;
  low : l.first ≤ l.page;
  high : l.page - l.first ≤ l.end - l.first;
  each : (k : ℕ) → slice_index_or l.cached k false
      ≡ (nat_lt k (l.page - l.first) && is_some (stored_page l.fn.self l.file (l.first + k)));
}
