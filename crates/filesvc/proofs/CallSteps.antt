-- Reads, writes and truncations as steps of the cache: what settles them, and what their refusals leave.
use Rattle.std.proofs.Common.{◌≡◌, ℕ, ◌+◌, Bool, true, false, cond, not, eqb, List, length, refl, ap, ◌∙◌, inl, inr}
use Rattle.std.specs.Prelude.{◌&&◌, ◌⊎◌, Option, Some, None, nat_lt, count_by}
use Rattle.pc_types.specs.declared.limits.TheConstants.{MAX_FILE_SIZE, MAX_TOUCHED}
use Rattle.pc_types.specs.declared.ids.HandleId.{HandleId}
use Rattle.pc_types.specs.declared.refusal.Refusal.{Refusal}
use Rattle.pc_types.specs.declared.refusal.Refusal.TheVariants.{BadHandle, DirtyLimit, Memory, NoFrame, NoSpace, TooLarge, TooLong}
use Rattle.machine.specs.declared.event.Event.{Event}
use Rattle.machine.specs.declared.event.Event.TheVariants as event
use Rattle.machine.specs.declared.event.Reply.{Reply}
use Rattle.machine.specs.declared.event.Reply.TheVariants as reply
use Rattle.machine.specs.Changes.{boundary, changed}
use Rattle.machine.specs.State.{State, dirty_total, file_at, handle_file, free_blocks, free_frames, is_cached, tags_at, is_open, touched, touched_count, without_block}
use Rattle.machine.specs.Step.{MayReply, Step}
use Rattle.machine.specs.Tests.{read_count, read_stop, tests, room_tests, truncate_stop, write_stop, write_tests}
use Rattle.machine.proofs.steps.Cases.{answered}
use Rattle.machine.proofs.steps.Choices.{quiet_if, quiet_none}
use Rattle.machine.proofs.steps.Answered.{stopped_quiet}
use Rattle.orderly.proofs.Calls.{IsWhole, append_whole, quiet_first, write_whole}
use Rattle.filesvc.proofs.SyncsKept.{begins_sync}
use Rattle.runs.specs.Plain.{Plain, plain_after}
use Rattle.runs.specs.World.{Act}
use Rattle.runs.proofs.moments.KeptRequests.{is_job}
use Rattle.world.proofs.Stays.{keeps_handles}
use Rattle.filesvc.specs.declared.writes.Wrote.{Wrote}
use Rattle.filesvc.specs.Attempts.{WroteAll}
use Rattle.filesvc.specs.Service.{is_settled}

abbrev pub is_call : Event → Bool
is_call (event.Read h o n) = true
is_call (event.Write h o b) = true
is_call (event.Append h b) = true
is_call (event.Truncate h z) = true
is_call _ = false

pub call_keeps : (e : Event) (r : Reply) → is_call e ≡ true → keeps_handles (Act e r) ≡ true
call_keeps (event.Read h o n) r k = refl
call_keeps (event.Write h o b) r k = refl
call_keeps (event.Append h b) r k = refl
call_keeps (event.Truncate h z) r k = refl
call_keeps _ r k = absurd cc

pub call_no_sync : (e : Event) → is_call e ≡ true → begins_sync e ≡ false
call_no_sync (event.Read h o n) k = refl
call_no_sync (event.Write h o b) k = refl
call_no_sync (event.Append h b) k = refl
call_no_sync (event.Truncate h z) k = refl
call_no_sync _ k = absurd cc

pub plain_refused : (p : Plain) (e : Event) (r : Refusal) → is_call e ≡ true → plain_after p e (reply.Refused r) ≡ p
plain_refused p (event.Read h o n) r k = refl
plain_refused p (event.Write h o b) r k = refl
plain_refused p (event.Append h b) r k = refl
plain_refused p (event.Truncate h z) r k = refl
plain_refused p _ r k = absurd cc

-- ---- refusals by the cache itself

abbrev pub is_own : Refusal → Bool
is_own BadHandle = true
is_own TooLong = true
is_own TooLarge = true
is_own NoFrame = true
is_own NoSpace = true
is_own DirtyLimit = true
is_own Memory = true
is_own _ = false

abbrev pub own_reply : Reply → Bool
own_reply (reply.Refused r) = is_own r
own_reply (reply.Job t) = false
own_reply _ = true

abbrev Own : Reply → Type 0
Own r = own_reply r ≡ true

own_if : (b : Bool) (x : Reply) (o : Option Reply) → Own x → ((r : Reply) → o ≡ Some r → Own r) → (r : Reply) → cond b (Some x) o ≡ Some r → Own r
own_if = quiet_if Own

own_room : (s : State) (f o n : ℕ) (r : Reply) → room_tests s f o n ≡ Some r → Own r
own_room s f o n =
    let pages = touched s.sizes.page o n in
    let dirtied = count_by (λ p. not (tags_at s f p).dirty) pages in
    own_if (nat_lt 0 dirtied && nat_lt s.sizes.dirty_limit (dirty_total s + dirtied)) _ _ refl
    (own_if (nat_lt (free_frames s) (count_by (λ p. not (is_cached s f p)) pages)) _ _ refl
    (own_if (nat_lt (length (free_blocks s)) (length (without_block s f pages))) _ None refl (quiet_none Own)))

own_read : (s : State) (h : HandleId) (o n : ℕ) (r : Reply) → tests s (event.Read h o n) ≡ Some r → Own r
own_read s h o n =
    let f = handle_file s h.0 in
    own_if (not (is_open s h.0)) _ _ refl
    (own_if (eqb (read_count s f o n) 0) _ _ refl
    (own_if (nat_lt MAX_TOUCHED (touched_count s.sizes.page o (read_count s f o n))) _ _ refl
    (stopped_quiet Own s f (read_stop s f o (read_count s f o n)) (λ p. refl) (λ p. refl))))

own_write : (s : State) (h o n : ℕ) (r : Reply) → write_tests s h o n ≡ Some r → Own r
own_write s h o n =
    own_if (not (is_open s h)) _ _ refl
    (own_if (eqb n 0) _ _ refl
    (own_if (nat_lt MAX_TOUCHED (touched_count s.sizes.page o n)) _ _ refl
    (own_if (nat_lt MAX_FILE_SIZE (o + n)) _ _ refl
    (quiet_first Own s (handle_file s h) (write_stop s (handle_file s h) o n) (room_tests s (handle_file s h) o n) (λ p. refl) (λ p. refl) (own_room s (handle_file s h) o n)))))

own_truncate : (s : State) (h : HandleId) (z : ℕ) (r : Reply) → tests s (event.Truncate h z) ≡ Some r → Own r
own_truncate s h z = own_if (not (is_open s h.0)) _ _ refl (own_if (nat_lt MAX_FILE_SIZE z) _ _ refl (stopped_quiet Own s (handle_file s h.0) (truncate_stop s (handle_file s h.0) (boundary s (handle_file s h.0) z)) (λ p. refl) (λ p. refl)))

-- ---- what each of them comes to

-- the reply has no request, and where it is a refusal it is the cache's; and what is not settled leaves the state, and was not
-- settled by its tests
pub record Comes (s : State) (o : Option Reply) (r : Reply) (new : State) : Type 0 where
  pub own : own_reply r ≡ true
  pub refused : (why : Refusal) → r ≡ reply.Refused why → new ≡ s
  pub why : (why : Refusal) → r ≡ reply.Refused why → (o ≡ Some (reply.Refused why)) ⊎ (why ≡ Memory)
  pub same : is_settled (Some r) ≡ false → new ≡ s
  pub unsettled : is_settled (Some r) ≡ false → is_settled o ≡ false

module _ (s new : State) where
  tested : (o : Option Reply) (r : Reply) → o ≡ Some r → own_reply r ≡ true → new ≡ s → Comes s o r new
  tested o r is own e = record { own = own; refused = λ _ _. e; why = λ why k. inl (is ∙ ap Some k); same = λ _. e; unsettled = λ u. ap is_settled is ∙ u }

  done : (o : Option Reply) (r : Reply) → own_reply r ≡ true → ((why : Refusal) → r ≡ reply.Refused why → (new ≡ s) × (why ≡ Memory)) → is_settled (Some r) ≡ true → Comes s o r new
  done o r own refused t = record { own = own; refused = λ why k. (refused why k).0; why = λ why k. inr (refused why k).1; same = λ u. absurd cc; unsettled = λ u. absurd cc }

  by_answer : (e : Event) (r : Reply) → ((r : Reply) → tests s e ≡ Some r → Own r) → (MayReply s e r → new ≡ changed s e r → Comes s (tests s e) r new) → Step s e r new → Comes s (tests s e) r new
  by_answer e r own on a = elim (answered (tests s e) s e r new a) [ inl b ↦ tested (tests s e) r b.0 (own r b.0) b.1 | inr b ↦ on b.1 b.2 ]

  reads : (x : Option Reply) (h : HandleId) (o n : ℕ) (r : Reply) → MayReply s (event.Read h o n) r → Comes s x r new
  reads x h o n (reply.Bytes bytes) e = done x (reply.Bytes bytes) refl (λ why is. absurd cc) refl
  reads x h o n _ e = absurd e

  writes : (x : Option Reply) (h : HandleId) (o : ℕ) (b : List ℕ) (r : Reply) → MayReply s (event.Write h o b) r → new ≡ changed s (event.Write h o b) r → Comes s x r new
  writes x h o b (reply.Wrote n end) e is = done x (reply.Wrote n end) refl (λ why is. absurd cc) refl
  writes x h o b (reply.Refused Memory) e is = done x (reply.Refused Memory) refl (λ why k. (is, (let m : why ≡ Memory = cc in m))) refl
  writes x h o b _ e is = absurd e

  appends : (x : Option Reply) (h : HandleId) (b : List ℕ) (r : Reply) → MayReply s (event.Append h b) r → new ≡ changed s (event.Append h b) r → Comes s x r new
  appends x h b (reply.Wrote n end) e is = done x (reply.Wrote n end) refl (λ why is. absurd cc) refl
  appends x h b (reply.Refused Memory) e is = done x (reply.Refused Memory) refl (λ why k. (is, (let m : why ≡ Memory = cc in m))) refl
  appends x h b _ e is = absurd e

  truncates : (x : Option Reply) (h : HandleId) (z : ℕ) (r : Reply) → MayReply s (event.Truncate h z) r → Comes s x r new
  truncates x h z reply.Done e = done x reply.Done refl (λ why is. absurd cc) refl
  truncates x h z _ e = absurd e

  pub comes : (e : Event) (r : Reply) → is_call e ≡ true → Step s e r new → Comes s (tests s e) r new
  comes (event.Read h o n) r k = by_answer (event.Read h o n) r (own_read s h o n) (λ may is. reads _ h o n r may)
  comes (event.Write h o b) r k = by_answer (event.Write h o b) r (own_write s h.0 o (length b)) (writes _ h o b r)
  comes (event.Append h b) r k = by_answer (event.Append h b) r (own_write s h.0 (file_at s (handle_file s h.0)).size (length b)) (appends _ h b r)
  comes (event.Truncate h z) r k = by_answer (event.Truncate h z) r (own_truncate s h z) (λ may is. truncates _ h z r may)
  comes _ r k = absurd cc

-- a read and a truncation are never refused for want of room
abbrev NeedsNoRoom : Reply → Type 0
NeedsNoRoom (reply.Refused why) = is_settled (Some (reply.Refused why)) ≡ true
NeedsNoRoom r = Unit {0}

pub read_settled : (s new : State) (h : HandleId) (o n : ℕ) (why : Refusal) → Step s (event.Read h o n) (reply.Refused why) new → is_settled (Some (reply.Refused why)) ≡ true
read_settled s new h o n why e =
    let f = handle_file s h.0 in
    elim (answered (tests s (event.Read h o n)) s (event.Read h o n) (reply.Refused why) new e) [
      | inl a ↦ quiet_if NeedsNoRoom (not (is_open s h.0)) _ _ refl
          (quiet_if NeedsNoRoom (eqb (read_count s f o n) 0) _ _ tt
          (quiet_if NeedsNoRoom (nat_lt MAX_TOUCHED (touched_count s.sizes.page o (read_count s f o n))) _ _ refl
          (stopped_quiet NeedsNoRoom s f (read_stop s f o (read_count s f o n)) (λ p. tt) (λ p. tt)))) (reply.Refused why) a.0
      | inr b ↦ absurd b.1
    ]

pub truncate_settled : (s new : State) (h : HandleId) (z : ℕ) (why : Refusal) → Step s (event.Truncate h z) (reply.Refused why) new → is_settled (Some (reply.Refused why)) ≡ true
truncate_settled s new h z why e = elim (answered (tests s (event.Truncate h z)) s (event.Truncate h z) (reply.Refused why) new e) [
  | inl a ↦ quiet_if NeedsNoRoom (not (is_open s h.0)) _ _ refl (quiet_if NeedsNoRoom (nat_lt MAX_FILE_SIZE z) _ _ refl (stopped_quiet NeedsNoRoom s (handle_file s h.0) (truncate_stop s (handle_file s h.0) (boundary s (handle_file s h.0) z)) (λ p. tt) (λ p. tt))) (reply.Refused why) a.0
  | inr b ↦ absurd b.1
]

pub no_job : (r : Reply) → own_reply r ≡ true → is_job r ≡ false
no_job (reply.Job t) e = absurd cc
no_job _ e = refl

-- ---- how far a write goes

-- as the answer of a call
whole : (o : ℕ) (b : List ℕ) (w : Wrote) → IsWhole o (length b) w.count w.end → WroteAll o b w
whole o b w is = record { count = is.count; ends = is.ends; small = is.small }

pub wrote_all : (s new : State) (h : HandleId) (o : ℕ) (b : List ℕ) (w : Wrote)
    → Step s (event.Write h o b) (reply.Wrote w.count w.end) new → WroteAll o b w
wrote_all s new h o b w step = whole o b w (write_whole s new h o b w.count w.end step)

pub appended_all : (s new : State) (h : HandleId) (b : List ℕ) (w : Wrote)
    → Step s (event.Append h b) (reply.Wrote w.count w.end) new → WroteAll (file_at s (handle_file s h.0)).size b w
appended_all s new h b w step = whole _ b w (append_whole s new h b w.count w.end step)
