-- Handles that a shard opened, or did not close.
use Rattle.std.proofs.Common.{rules, ◌≡◌, ◌∙◌, ℕ, subst, sym, ap}
use Rattle.std.specs.Prelude.{Err, IfErr, IfOk, Ok, Result}
use Rattle.held.specs.declared.denied.Denied.{Denied}
use Rattle.held.specs.declared.log.Slip.{Slip}
use Rattle.shared.specs.Seen.{HandleSeen}
use Rattle.shared.specs.ShardNames.{CacheNames}
use Rattle.shared.specs.ShardResults.{closed_in}
use Rattle.shared.specs.declared.shards.handle.ShardHandle.{ShardHandle}

-- it comes back as it was
pub comes_back : (shard : ℕ) (h : HandleSeen) (closed : Result Slip (Denied × HandleSeen)) (result : Result Slip (Denied × ShardHandle))
    → closed_in result ≡ closed → IfErr closed (λ e. result ≡ Err (e.0, record { shard = shard; handle = e.1 }))
    → IfErr closed (λ e. e.1 ≡ h) → IfErr result (λ e. e.1 ≡ record { shard = shard; handle = h })
comes_back shard h (Ok slip) (Ok s) is err back = tt
comes_back shard h (Ok slip) (Err e) is err back = absurd (search rules)
comes_back shard h (Err e) result is err back =
    let Is : Result Slip (Denied × ShardHandle) → Type 0 = λ r. IfErr r (λ d. d.1 ≡ record { shard = shard; handle = h }) in
    subst Is (sym err) (ap (λ (x : HandleSeen). record { shard = shard; handle = x }) back)

-- the board that a shard's handle is of is that of its shard's cache
pub board_at : (names : ℕ → CacheNames) (shard : ℕ) (opened : Result (ShardHandle × Slip) Denied) → IfOk opened (λ r. r.0.shard ≡ shard)
    → IfOk opened (λ r. r.0.handle.pass.board ≡ (names shard).board) → IfOk opened (λ r. r.0.handle.pass.board ≡ (names r.0.shard).board)
board_at names shard (Ok r) at board = board ∙ ap (λ k. (names k).board) (sym at)
board_at names shard (Err d) at board = tt
