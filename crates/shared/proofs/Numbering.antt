-- The numbers of files among those of all shards.
use Rattle.std.proofs.Common.{◌≡◌, ◌+◌, ◌*◌, ◌-◌, ◌<◌, ◌≤◌, ◌%◌, ◌^◌, ℕ, Bool, true, false, length, refl, ap, ◌∙◌, arith}
use Rattle.std.specs.Prelude.{Err, IfOk, None, Ok, Option, Result, if◌then◌else◌, min, nat_le}
use native.Mathlib.Nat.{add-mul-mod_self_right, add_comm, mod-eq_of_lt, mul-le-mul}
use Rattle.held.specs.Entered.{Made}
use Rattle.held.specs.Shown.{HeldSeen, SeatSeen}
use Rattle.held.specs.declared.denied.Denied.{Denied}
use Rattle.held.specs.declared.log.Slip.{Slip}
use Rattle.cachecore.specs.Replies.{created}
use Rattle.machine.proofs.steps.Choices.{below}
use Rattle.machine.specs.State.{State}
use Rattle.machine.specs.Step.{AnswersOr, Step}
use Rattle.machine.specs.Tests.{refuse}
use Rattle.machine.specs.declared.event.Event.TheVariants as event
use Rattle.machine.specs.declared.event.Reply.TheVariants as reply
use Rattle.pc_types.specs.declared.ids.FileId.{FileId}
use Rattle.pc_types.specs.declared.limits.TheConstants.{MAX_FILES}
use Rattle.pc_types.specs.declared.refusal.Refusal.TheVariants.{TooManyFiles}
use Rattle.shared.specs.ShardResults.{numbered}

few_by : (b : Bool) (s t : State) (f : FileId) → nat_le MAX_FILES (length s.files) ≡ b
    → AnswersOr (if b then refuse TooManyFiles else None) s event.Create (reply.File f) t → f.0 < 64
few_by true s t f e h = let refused = h.0 in absurd cc
few_by false s t f e h = let less = below (length s.files) MAX_FILES e in omega (arith, h.0, less)

-- a cache has 64 files at most
few_files : (s t : State) (f : FileId) → Step s event.Create (reply.File f) t → f.0 < 64
few_files s t f h = few_by (nat_le MAX_FILES (length s.files)) s t f refl h

pub few_made : (f : FileId) (old new : HeldSeen) (before after : SeatSeen) (slip : Slip)
    → Made event.Create (created (Ok f)) old new before after slip → f.0 < 64
few_made f old new before after slip m = few_files old.core.state new.core.state f m.step

stands_in : (shards shard file : ℕ) → shard < shards → shards ≤ 16 → file < 64
    → min (file * shards + shard) (2 ^ 64 - 1) % shards ≡ shard
stands_in shards shard file less few most =
    let below : file ≤ 63 = omega (arith, most) in
    let product : file * shards ≤ 63 * 16 = mul-le-mul below few in
    let is : min (file * shards + shard) (2 ^ 64 - 1) ≡ file * shards + shard = omega (arith, product, less, few) in
    ap (λ n. n % shards) (is ∙ add_comm (file * shards) shard) ∙ add-mul-mod_self_right shard file shards ∙ mod-eq_of_lt less

-- a shard's file keeps its shard among all
pub numbered_in : (shards shard : ℕ) (made : Result (FileId × Slip) Denied) → shard < shards → shards ≤ 16
    → IfOk made (λ r. r.0.0 < 64) → IfOk (numbered shards shard made) (λ r. r.0.0 % shards ≡ shard)
numbered_in shards shard (Ok r) less few most = stands_in shards shard r.0.0 less few most
numbered_in shards shard (Err d) less few most = tt
