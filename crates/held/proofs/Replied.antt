-- What replies say of their events.
use Rattle.std.proofs.Common.{◌≡◌, ℕ, ◌<◌, ◌≤◌, Bool, true, false, cond, not, length, refl, arith, subst, inl, inr}
use Rattle.std.specs.Prelude.{Option, Some, None, Result, Ok, is_some, nat_le}
use Rattle.std.specs.FinMap as map
use Rattle.blockdev.specs.Jobs.{IsJobFor}
use Rattle.cachecore.specs.Replies.{OnFillJob, OnFlushJob, OnSyncJob}
use Rattle.cachecore.specs.declared.answers.FillBegun.{FillBegun}
use Rattle.cachecore.specs.declared.answers.FlushBegun.{FlushBegun}
use Rattle.cachecore.specs.declared.answers.Refused.{Refused}
use Rattle.cachecore.specs.declared.answers.SyncStepped.{SyncStepped}
use Rattle.machine.specs.declared.event.End.{End}
use Rattle.machine.specs.declared.event.Event.TheVariants as event
use Rattle.machine.specs.declared.event.Reply.{Reply}
use Rattle.machine.specs.declared.event.Reply.TheVariants as reply
use Rattle.machine.specs.Changes.{flush_pick}
use Rattle.machine.specs.State.{State, file_at}
use Rattle.machine.specs.Step.{AnswersOr, Step}
use Rattle.machine.specs.Tests.{is_full, refuse, tests}
use Rattle.machine.proofs.steps.Cases.{answered, happened}
use Rattle.machine.proofs.steps.Choices.{below, if_none}
use Rattle.machine.proofs.steps.Ends.{end_loud}
use Rattle.pc_types.specs.declared.ids.FileId.{FileId}
use Rattle.pc_types.specs.declared.ids.HandleId.{HandleId}
use Rattle.pc_types.specs.declared.ids.SyncId.{SyncId}
use Rattle.pc_types.specs.declared.kind.Kind.{Kind}
use Rattle.pc_types.specs.declared.limits.TheConstants.{MAX_FILES}
use Rattle.pc_types.specs.declared.refusal.Refusal.{Refusal}
use Rattle.pc_types.specs.declared.refusal.Refusal.TheVariants.{NoSuchFile, TooManyInFlight}

-- an opened file is one of those that there are
pub opened_within : (s : State) (f : FileId) (h : HandleId) (new : State) → Step s (event.Open f) (reply.Handle h) new
    → length s.files ≤ MAX_FILES → f.0 < MAX_FILES
opened_within s f h new step few =
    let a = happened s (event.Open f) (reply.Handle h) new step refl (λ n o e. absurd cc) in
    let b = below f.0 _ (if_none (nat_le (length s.files) f.0) _ _ a.untested).0 in omega arith

-- the end of a request in flight is not refused
pub end_taken : (s : State) (kind : Kind) (end : End) (why : Refusal) (new : State)
    → Step s (event.End kind end) (reply.Refused why) new → tests s (event.End kind end) ≡ None → ⊥
end_taken s kind end why new step none =
    let h = subst (λ o. AnswersOr o s (event.End kind end) (reply.Refused why) new) none step in
    let k : true ≡ false = end_loud (map.get s.requests end.serial.0) end.outcome (reply.Refused why) h.0 in cc

-- nor is the drop of a sync in progress
pub drop_taken : (s : State) (m : SyncId) (why : Refusal) (new : State)
    → Step s (event.SyncDrop m) (reply.Refused why) new → tests s (event.SyncDrop m) ≡ None → ⊥
drop_taken s m why new step none =
    (subst (λ o. AnswersOr o s (event.SyncDrop m) (reply.Refused why) new) none step).0

-- the reply to the event that asks for a size is that of a test
pub size_tested : (s : State) (h : HandleId) (r : Reply) → Step s (event.Size h) r s → tests s (event.Size h) ≡ Some r
size_tested s h r step = elim (answered (tests s (event.Size h)) s (event.Size h) r s step) [
  | inl a ↦ a.0
  | inr a ↦ absurd a.1
]

-- ---- jobs for the device of the cache that is named

pub fill_fits : (answer : Result FillBegun Refused) (a : FillBegun) (name blocks page name' blocks' page' : ℕ)
    → OnFillJob answer (IsJobFor name blocks page) → answer ≡ Ok a → name ≡ name' → blocks ≡ blocks' → page ≡ page'
    → OnFillJob (Ok a) (IsJobFor name' blocks' page')
fill_fits answer a name blocks page name' blocks' page' h is n b p =
    subst (λ (x : Result FillBegun Refused × ℕ × ℕ × ℕ). OnFillJob x.0 (IsJobFor x.1 x.2 x.3))
    (λ i. (is i, n i, b i, p i)) h

pub flush_fits : (answer : Result FlushBegun Refused) (a : FlushBegun) (name blocks page name' blocks' page' : ℕ)
    → OnFlushJob answer (IsJobFor name blocks page) → answer ≡ Ok a → name ≡ name' → blocks ≡ blocks' → page ≡ page'
    → OnFlushJob (Ok a) (IsJobFor name' blocks' page')
flush_fits answer a name blocks page name' blocks' page' h is n b p =
    subst (λ (x : Result FlushBegun Refused × ℕ × ℕ × ℕ). OnFlushJob x.0 (IsJobFor x.1 x.2 x.3))
    (λ i. (is i, n i, b i, p i)) h

pub sync_fits : (answer : Result SyncStepped Refused) (a : SyncStepped) (name blocks page name' blocks' page' : ℕ)
    → OnSyncJob answer (IsJobFor name blocks page) → answer ≡ Ok a → name ≡ name' → blocks ≡ blocks' → page ≡ page'
    → OnSyncJob (Ok a) (IsJobFor name' blocks' page')
sync_fits answer a name blocks page name' blocks' page' h is n b p =
    subst (λ (x : Result SyncStepped Refused × ℕ × ℕ × ℕ). OnSyncJob x.0 (IsJobFor x.1 x.2 x.3))
    (λ i. (is i, n i, b i, p i)) h

-- ---- files with nothing to write

-- a file that is asked and has nothing to write leaves the state
pub nothing_to_write : (s : State) (f : FileId) (new : State) → Step s (event.FlushBegin f) reply.Nothing new
    → (new ≡ s) × (flush_pick (file_at s f.0) ≡ None)
nothing_to_write s f new step =
    elim (answered (tests s (event.FlushBegin f)) s (event.FlushBegin f) reply.Nothing new step) [
      | inl a ↦ (a.1, go (nat_le (length s.files) f.0) (flush_pick (file_at s f.0)) (is_full s) a.0)
      | inr a ↦ absurd a.1
    ]
  where
    go : (past : Bool) (pick : Option ℕ) (full : Bool)
        → cond past (refuse NoSuchFile)
        (cond (not (is_some pick)) (Some reply.Nothing) (cond full (refuse TooManyInFlight) None))
        ≡ Some reply.Nothing → pick ≡ None
    go true pick full e = absurd cc
    go false None full e = refl
    go false (Some p) true e = absurd cc
    go false (Some p) false e = absurd cc
