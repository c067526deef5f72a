-- Inside this crate: what always holds of the syncs in progress.
use Rattle.std.specs.Prelude.{◌≡◌, ℕ, true, List, is_some, Some, unwrap_or}
use Rattle.std.specs.Ordering.{nat_cmp}
use Rattle.std.specs.FinMap.{FinMap, get}
use Rattle.machine.specs.State.{File, Sync}
use Rattle.pagestore.specs.Syncing.{IsCoded, failed_of}

-- The handle of a sync stays open. Where a write of its file failed since it began, there is a code to answer.
pub record AreSyncs (handles : FinMap nat_cmp ℕ) (files : List File) (syncs : FinMap nat_cmp Sync) : Type 0 where
  pub opened : (m : ℕ) (y : Sync) → get syncs m ≡ Some y → is_some (get handles y.handle) ≡ true
  pub coded : (m : ℕ) (y : Sync) → get syncs m ≡ Some y
      → IsCoded (failed_of files (unwrap_or (get handles y.handle) 0)) y.failures
