-- Handles that were polled, or told of a failed write: they are of their boards still.
use Rattle.std.proofs.Common.{◌≡◌, ◌≢◌, ◌<◌, ◌≤◌, ◌∙◌, ◌⊎◌, ⊎_elim, inl, inr, ℕ, zero, suc, sym, ap, arith}
use Rattle.std.specs.Prelude.{Err, IfErr, IfOk, List, Ok, Option, Result}
use Rattle.errseq.specs.declared.recording.Recording.{Recording}
use Rattle.pc_types.specs.declared.refusal.Refusal.{Refusal}
use Rattle.pc_types.specs.declared.refusal.Refusal.TheVariants.{BadHandle}
use Rattle.shared.proofs.ShardSeated.{same_or_else}
use Rattle.shared.specs.Polls.{Polled}
use Rattle.shared.specs.Seen.{FailedSeen}
use Rattle.shared.specs.ShardNames.{CacheNames}
use Rattle.shared.specs.Workers.{IsOwnFailure}
use Rattle.shared.specs.declared.shards.handle.ShardHandle.{ShardHandle}

less_or_else : (a b : ℕ) → (a < b) ⊎ (b ≤ a)
less_or_else a zero = inr (omega arith)
less_or_else zero (suc b) = inl (omega arith)
less_or_else (suc a) (suc b) = ⊎_elim (λ less. inl (omega (arith, less))) (λ over. inr (omega (arith, over))) (less_or_else a b)

-- it is of its shard's board, where it is of its shard's cache
abbrev pub Came : (ℕ → CacheNames) → ShardHandle → Type 0
Came names h = h.handle.cache ≡ (names h.shard).name → h.handle.pass.board ≡ (names h.shard).board

-- the handle is as it was, but for what it knows
abbrev pub IsStill : ShardHandle → ShardHandle → Type 0
IsStill old new = (new.shard ≡ old.shard) × (new.handle.cache ≡ old.handle.cache) × (new.handle.pass.board ≡ old.handle.pass.board)

pub still_came : (names : ℕ → CacheNames) (old new : ShardHandle) → IsStill old new → Came names old → Came names new
still_came names old new still came named =
    still.2 ∙ came (sym still.1 ∙ named ∙ ap (λ k. (names k).name) still.0) ∙ sym (ap (λ k. (names k).board) still.0)

unchanged : (old new : ShardHandle) → new ≡ old → IsStill old new
unchanged old new is = (ap (λ (h : ShardHandle). h.shard) is, ap (λ (h : ShardHandle). h.handle.cache) is, ap (λ (h : ShardHandle). h.handle.pass.board) is)

-- a handle that was polled
pub polled_came : (names : ℕ → CacheNames) (shards : ℕ) (old new : ShardHandle) (result : Result (Option ℕ) Refusal)
    → (shards ≤ old.shard → (result ≡ Err BadHandle) × (new ≡ old))
    → (old.handle.cache ≢ (names old.shard).name → (result ≡ Err BadHandle) × (new ≡ old))
    → (old.shard < shards → old.handle.cache ≡ (names old.shard).name → IfErr result (λ _. ⊥))
    → (new ≡ record old { handle = record old.handle { pass = new.handle.pass } })
    → IfOk result (Polled old.handle.pass new.handle.pass) → Came names old → Came names new
polled_came names shards old new (Ok told) absent foreign answers same polled =
    still_came names old new (ap (λ (h : ShardHandle). h.shard) same, ap (λ (h : ShardHandle). h.handle.cache) same, polled.same.0)
polled_came names shards old new (Err e) absent foreign answers same polled =
    still_came names old new
    (⊎_elim
    (λ less. ⊎_elim (λ is. absurd (answers less is)) (λ not. unchanged old new (foreign not).1)
    (same_or_else old.handle.cache (names old.shard).name))
    (λ over. unchanged old new (absent over).1) (less_or_else old.shard shards))

-- one that was told of a failed write
pub told_came : (names : ℕ → CacheNames) (shards : ℕ) (old new : ShardHandle) (failed : FailedSeen) (known : List Recording)
    (result : Result Unit Refusal) → (shards ≤ old.shard → (result ≡ Err BadHandle) × (new ≡ old))
    → (old.handle.cache ≢ (names old.shard).name → (result ≡ Err BadHandle) × (new ≡ old))
    → (failed.cache ≢ (names old.shard).name → new ≡ old)
    → (old.shard < shards → old.handle.cache ≡ (names old.shard).name → failed.cache ≡ (names old.shard).name
    → new ≡ record old { handle = record old.handle { pass = record old.handle.pass { known = known } } })
    → Came names old → Came names new
told_came names shards old new failed known result absent foreign other told =
    still_came names old new
    (⊎_elim
    (λ less. ⊎_elim
    (λ is. ⊎_elim (λ its. changed (told less is its)) (λ not. unchanged old new (other not))
    (same_or_else failed.cache (names old.shard).name))
    (λ not. unchanged old new (foreign not).1) (same_or_else old.handle.cache (names old.shard).name))
    (λ over. unchanged old new (absent over).1) (less_or_else old.shard shards))
  where
    changed : new ≡ record old { handle = record old.handle { pass = record old.handle.pass { known = known } } } → IsStill old new
    changed is = (ap (λ (h : ShardHandle). h.shard) is, ap (λ (h : ShardHandle). h.handle.cache) is, ap (λ (h : ShardHandle). h.handle.pass.board) is)

-- a failed write of one shard is of that shard's board
pub of_one : (names : ℕ → CacheNames) (own shard : ℕ) (failed : FailedSeen) → own ≡ shard
    → IsOwnFailure (names shard).name (names shard).board failed → failed.cache ≡ (names own).name → failed.receipt.board ≡ (names own).board
of_one names own shard failed same is named = is.1 ∙ ap (λ k. (names k).board) (sym same)

-- and of no board of a shard with another name
pub of_others : (names : ℕ → CacheNames) (own shard : ℕ) (failed : FailedSeen) → (names own).name ≢ (names shard).name
    → IsOwnFailure (names shard).name (names shard).board failed → failed.cache ≡ (names own).name → failed.receipt.board ≡ (names own).board
of_others names own shard failed apart is named = absurd (apart (sym named ∙ is.0))
