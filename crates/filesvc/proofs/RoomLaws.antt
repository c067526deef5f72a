-- What a fill is refused by, an age with an eviction, and how a flush in one ends.
use Rattle.std.proofs.Common.{◌≡◌, ℕ, ◌<◌, ◌≤◌, Bool, true, false, cond, List, eqb-true, refl, ap, sym, subst, ◌∙◌, arith, inl, inr}
use Rattle.std.specs.Prelude.{◌⊎◌, ◌≢◌, ◌&&◌, ◌||◌, ◌==◌, not, nat_le, length, is_some, Option, Some, None}
use Rattle.std.specs.FinMap as finmap
use Rattle.std.specs.FinMap.{len-empty}
use Rattle.std.specs.Ordering.{nat_cmp}
use Rattle.std.proofs.lemmas.Bool.{leb-true}
use Rattle.atomic_table.specs.Seated.{TableId}
use Rattle.errboard.specs.Shown.{RecorderSeen}
use Rattle.blockdev.specs.Device.{max_calls}
use Rattle.pc_types.specs.declared.ids.FileId.{FileId}
use Rattle.pc_types.specs.declared.ids.HandleId.{HandleId}
use Rattle.pc_types.specs.declared.ids.PageIndex.{PageIndex}
use Rattle.pc_types.specs.declared.refusal.Refusal.{Refusal}
use Rattle.pc_types.specs.declared.ids.Serial.{Serial}
use Rattle.pc_types.specs.declared.limits.TheConstants.{MAX_IN_FLIGHT, SERIAL_END}
use Rattle.pc_types.specs.declared.refusal.Refusal.TheVariants.{BadHandle, DirtyLimit, Io, Memory, NoFrame, NoSuchFile, Stranger, TooManyInFlight, Turns}
use Rattle.pc_types.specs.declared.kind.Kind.TheVariants.{Flush}
use Rattle.machine.specs.declared.event.Event.{Event}
use Rattle.machine.specs.declared.event.Event.TheVariants as event
use Rattle.machine.specs.declared.event.Outcome as core
use Rattle.machine.specs.declared.event.Outcome.TheVariants as outcome
use Rattle.machine.specs.declared.event.Reply.{Reply}
use Rattle.machine.specs.declared.event.Reply.TheVariants as reply
use Rattle.cachecore.specs.Replies as replies
use Rattle.cachecore.specs.Replies.{evicted, outcome_of}
use Rattle.machine.specs.State.{State, Request, file_at, handle_file, free_frames, is_cached, is_filling, is_open, is_written, page_count}
use Rattle.machine.specs.Step.{EndReply, MayReply, Step}
use Rattle.machine.specs.Tests.{fits, tests, is_full}
use Rattle.machine.specs.Changes.{flush_pick}
use Rattle.machine.proofs.steps.Choices.{and_true, not_true, quiet_if, quiet_none, quiet_when}
use Rattle.machine.proofs.steps.Cases.{answered, happened}
use Rattle.world.specs.declared.step.Step.TheVariants as step
use Rattle.world.specs.Stepping.{WorldSeen, world_of}
use Rattle.runs.specs.World.{Finish, WorldStep, Ends, noted}
use Rattle.machine.proofs.steps.Ends.{end_loud, of_end, own_end}
use Rattle.world.proofs.InFlight.{finish_step}
use Rattle.runs.proofs.moments.KeptRequests.{is_job}
use Rattle.runs.proofs.events.Lookups.{get-insert1}
use Rattle.runs.proofs.views.View.{put1_here}
use Rattle.filesvc.specs.Rests.{AtOnce, IsService, IsServing}
use Rattle.filesvc.specs.Rooms.{FailsFlush, FlushesOne, IsClean, IsFillRefusal, IsFlush, IsWayRefusal, MakesRoom, Suffices}
use Rattle.filesvc.specs.Seen.{SoloSeen}
use Rattle.filesvc.specs.Service.{Faulted, Serves, wants}
use Rattle.filesvc.proofs.Acted.{service_acted}
use Rattle.filesvc.proofs.FailedFlush.{carried_still}
use Rattle.filesvc.specs.Attempts.{Helps}
use Rattle.filesvc.specs.Made.{FailsFill, Moves, WantsMemory, is_help}
use Rattle.filesvc.proofs.Laws.{moves_refl, moves_trans, one_move, serves_trans}
use Rattle.filesvc.proofs.WorldLaws as laws
use Rattle.filesvc.proofs.WorldLaws.{Carried, IsSound, Made, Once, Quiet, Whole, at_once_serving, call_by, call_failed, fill_begins, made_goes, once, outcome_noted, service_sound}

-- ---- what a fill's begin may answer

-- no failure, and no refusal of the service's own
abbrev is_fair : Reply → Bool
is_fair (reply.Refused (Io code)) = false
is_fair (reply.Refused Turns) = false
is_fair (reply.Failed code) = false
is_fair r = true

abbrev Fair : Reply → Type 0
Fair r = is_fair r ≡ true

fair_if : (b : Bool) (x : Reply) (o : Option Reply) → Fair x → ((r : Reply) → o ≡ Some r → Fair r) → (r : Reply) → cond b (Some x) o ≡ Some r → Fair r
fair_if = quiet_if Fair

fair_tests : (s : State) (h : HandleId) (p : PageIndex) (r : Reply) → tests s (event.FillBegin h p) ≡ Some r → Fair r
fair_tests s h p =
    let f = handle_file s h.0 in
    fair_if (not (is_open s h.0)) _ _ refl
    (fair_if (nat_le (page_count s.sizes.page (file_at s f).size) p.0) _ _ refl
    (fair_if (is_filling s f p.0) _ _ refl
    (fair_if (is_cached s f p.0) _ _ refl
    (fair_if (free_frames s == 0) _ _ refl (fair_if (is_written s f p.0 && is_full s) _ None refl (quiet_none Fair))))))

fair_reply : (s : State) (h : HandleId) (p : PageIndex) (r : Reply) → MayReply s (event.FillBegin h p) r → Fair r
fair_reply s h p reply.Filled e = refl
fair_reply s h p (reply.Job t) e = refl
fair_reply s h p (reply.Refused Memory) e = refl
fair_reply s h p _ e = absurd e

fill_fair : (s : State) (h : HandleId) (p : PageIndex) (r : Reply) (new : State) → Step s (event.FillBegin h p) r new → Fair r
fill_fair s h p r new a = elim (answered (tests s (event.FillBegin h p)) s (event.FillBegin h p) r new a) [
  | inl x ↦ fair_tests s h p r x.0
  | inr x ↦ fair_reply s h p r x.1
]

-- ---- a fill in one that is refused

end_never : (w new : WorldSeen) (t : ℕ) (why : Refusal) → reply.Refused why ≢ reply.Refused Stranger → WorldStep (world_of w) (Finish t (reply.Refused why)) (world_of new) → ⊥
end_never w new t why answers m =
    let e = finish_step (world_of w) (world_of new) t (reply.Refused why) m in
    elim (of_end w.core e.x.kind (own_end w.core t e.x e.call) (reply.Refused why) new.core e.step) [
      | inl same ↦ answers same.1
      | inr a ↦ (let q : true ≡ false = end_loud (Some a.x) e.call (reply.Refused why) a.reply in cc)
    ]

-- why a fill may not begin
abbrev FillWhy : State → ℕ → Reply → Type 0
FillWhy s h (reply.Refused BadHandle) = is_open s h ≡ false
FillWhy s h (reply.Refused NoFrame) = (free_frames s == 0) ≡ true
FillWhy s h (reply.Refused TooManyInFlight) = is_full s ≡ true
FillWhy s h (reply.Refused Memory) = Unit {0}
FillWhy s h (reply.Refused r) = ⊥
FillWhy s h r = Unit {0}

why_tests : (s : State) (h : HandleId) (p : PageIndex) (r : Reply) → tests s (event.FillBegin h p) ≡ Some r → FillWhy s h.0 r
why_tests s h p =
    let f = handle_file s h.0 in
    quiet_when (FillWhy s h.0) (not (is_open s h.0)) _ _ (λ t. not_true (is_open s h.0) t)
    (quiet_if (FillWhy s h.0) (nat_le (page_count s.sizes.page (file_at s f).size) p.0) _ _ tt
    (quiet_if (FillWhy s h.0) (is_filling s f p.0) _ _ tt
    (quiet_if (FillWhy s h.0) (is_cached s f p.0) _ _ tt
    (quiet_when (FillWhy s h.0) (free_frames s == 0) _ _ (λ t. t)
    (quiet_when (FillWhy s h.0) (is_written s f p.0 && is_full s) _ None (λ t. (and_true _ _ t).1) (quiet_none (FillWhy s h.0)))))))

why_reply : (s : State) (h : HandleId) (p : PageIndex) (r : Refusal) → MayReply s (event.FillBegin h p) (reply.Refused r) → FillWhy s h.0 (reply.Refused r)
why_reply s h p Memory e = tt
why_reply s h p _ e = absurd e

refused_why : (old new : WorldSeen) (errors after : RecorderSeen) (h : HandleId) (p : PageIndex) (r : Refusal) → Once old errors (event.FillBegin h p) (reply.Refused r) new after → FillWhy old.core h.0 (reply.Refused r) × (new.core ≡ old.core)
refused_why old new errors after h p r (Quiet j m none) = elim (answered (tests old.core (event.FillBegin h p)) old.core (event.FillBegin h p) (reply.Refused r) new.core m.0.1.0) [
  | inl x ↦ (why_tests old.core h p (reply.Refused r) x.0, x.1)
  | inr x ↦ (why_reply old.core h p r x.1, x.2)
]
refused_why old new errors after h p r (Whole c) = absurd (end_never c.called new c.serial.0 r c.ended c.end.0)

-- where no request is in flight, one that is refused was refused a serial
pub no_serial : (s : State) → s.requests ≡ finmap.empty → is_full s ≡ true → SERIAL_END ≤ s.next
no_serial s none full = leb-true SERIAL_END s.next (subst (λ m. (nat_le MAX_IN_FLIGHT m || nat_le SERIAL_END s.next) ≡ true) (ap finmap.len none ∙ len-empty nat_cmp Request) full)

-- the step that it was, where memory was refused
memory_wanted : (old new : WorldSeen) (errors after : RecorderSeen) (h : HandleId) (p : PageIndex)
    → Once old errors (event.FillBegin h p) (reply.Refused Memory) new after → WantsMemory old h.0 p new
memory_wanted old new errors after h p (Quiet j m none) = (old, moves_refl (is_help h.0 (Some p)) old, m)
memory_wanted old new errors after h p (Whole c) = absurd (end_never c.called new c.serial.0 Memory (λ e. cc) c.end.0)

-- a fill that is refused, where a frame is free
pub fill_stopped : (name : ℕ) (s : SoloSeen) (w : WorldSeen) (errors : RecorderSeen) (table : TableId) (h : HandleId) (p : PageIndex) (want : Option Refusal) (r : Refusal) → IsServing name s.world table s.errors → AtOnce s.world s.errors (step.FillBegin h p) (reply.Refused r) w errors → 0 < free_frames s.world.core → IsFillRefusal s h p want r (record s { world = w; errors = errors })
fill_stopped name s w errors table h p want r i a free =
    let fill = once s.world w s.errors errors _ _ _ (fill_begins h p) a in
    let x = refused_why s.world w s.errors errors h p r fill in
    by r x.0 (ap (λ (c : State). c.next) x.1) fill
  where
    by : (r : Refusal) → FillWhy s.world.core h.0 (reply.Refused r) → w.core.next ≡ s.world.core.next
        → Once s.world s.errors (event.FillBegin h p) (reply.Refused r) w errors → IsFillRefusal s h p want r (record s { world = w; errors = errors })
    by BadHandle y n o = y
    by NoFrame y n o = absurd (let none = eqb-true (free_frames s.world.core) 0 y in omega arith)
    by TooManyInFlight y n o = subst (λ k. SERIAL_END ≤ k) (sym n) (no_serial s.world.core i.rests.requests y)
    by Memory y n o = memory_wanted s.world w s.errors errors h p o
    by r y n o = absurd y

-- ---- want of room since before

pub faulted_before : (old mid new : SoloSeen) → Serves old mid → Faulted mid new → Faulted old new
faulted_before old mid new s (inl x) = inl (let y = s.keeps.faults in omega arith)
faulted_before old mid new s (inr x) = inr x

-- the room that a call wants could not be made, which would be there if no device call had failed, and it wants that room still
module _ (old mid new : SoloSeen) (serves : Serves old mid) (d : Bool) (h o n : ℕ) where
  unless : {P : Type 0} → FailsFlush mid new ⊎ P → (P → ⊥) → FailsFlush mid new
  unless (inl f) wanted = f
  unless (inr y) wanted = absurd (wanted y)

  stands : (want : Refusal) → wants d mid.world.core h o n ≡ Some want → FailsFlush mid new
      → Faulted old new × (wants d new.world.core h o n ≡ Some want)
  stands want way f = (faulted_before old mid new serves f.faulted, f.still d h o n ∙ way)

  pub way_refused : (want r : Refusal) → wants d mid.world.core h o n ≡ Some want
      → (want ≡ NoFrame) × (Suffices mid → ⊥) ⊎ (want ≡ DirtyLimit) × (IsClean mid → ⊥)
      → r ≡ want → (want ≡ NoFrame → r ≡ NoFrame → FailsFlush mid new ⊎ Suffices mid)
      → (want ≡ DirtyLimit → r ≡ DirtyLimit → FailsFlush mid new ⊎ IsClean mid)
      → IsWayRefusal old (wants d new.world.core h o n) r new
  way_refused want NoFrame way (inl x) k frames clean = stands NoFrame (way ∙ ap Some x.0) (unless (frames x.0 refl) x.1)
  way_refused want NoFrame way (inr x) k frames clean = absurd (let e : NoFrame ≡ DirtyLimit = k ∙ x.0 in cc)
  way_refused want DirtyLimit way (inr x) k frames clean = stands DirtyLimit (way ∙ ap Some x.0) (unless (clean x.0 refl) x.1)
  way_refused want DirtyLimit way (inl x) k frames clean = absurd (let e : DirtyLimit ≡ NoFrame = k ∙ x.0 in cc)
  way_refused want r way (inl x) k frames clean = absurd (let e : r ≡ NoFrame = k ∙ x.0 in cc)
  way_refused want r way (inr x) k frames clean = absurd (let e : r ≡ DirtyLimit = k ∙ x.0 in cc)

pub way_refusal_before : (old mid new : SoloSeen) (want : Option Refusal) (r : Refusal) → Serves old mid → IsWayRefusal mid want r new → IsWayRefusal old want r new
way_refusal_before old mid new want NoFrame k x = (faulted_before old mid new k x.0, x.1)
way_refusal_before old mid new want DirtyLimit k x = (faulted_before old mid new k x.0, x.1)
way_refusal_before old mid new want r k x = absurd x

fails_before : (old mid new : WorldSeen) (h : ℕ) (p : PageIndex) (code : ℕ) → Moves (is_help h (Some p)) old mid → FailsFill mid h p code new → FailsFill old h p code new
fails_before old mid new h p code m (last, n, t, fill) = (last, moves_trans (is_help h (Some p)) old mid last m n, t, fill)

wants_before : (old mid new : WorldSeen) (h : ℕ) (p : PageIndex) → Moves (is_help h (Some p)) old mid → WantsMemory mid h p new → WantsMemory old h p new
wants_before old mid new h p m (last, n, fill) = (last, moves_trans (is_help h (Some p)) old mid last m n, fill)

pub fill_refusal_before : (old mid new : SoloSeen) (h : HandleId) (p : PageIndex) (want : Option Refusal) (r : Refusal) → Helps h.0 (Some p) old mid
    → IsFillRefusal mid h p want r new → IsFillRefusal old h p want r new
fill_refusal_before old mid new h p want BadHandle k x = ap (λ m. is_some (finmap.get m h.0)) (sym k.serves.keeps.handles) ∙ x
fill_refusal_before old mid new h p want NoFrame k x = (faulted_before old mid new k.serves x.0, x.1)
fill_refusal_before old mid new h p want DirtyLimit k x = (faulted_before old mid new k.serves x.0, x.1)
fill_refusal_before old mid new h p want (Io code) k x =
    (faulted_before old mid new k.serves x.0, fails_before old.world mid.world new.world h.0 p code k.moves x.1)
fill_refusal_before old mid new h p want TooManyInFlight k x = x
fill_refusal_before old mid new h p want Memory k x = wants_before old.world mid.world new.world h.0 p k.moves x
fill_refusal_before old mid new h p want r k x = absurd x

-- ---- a fill in one whose device call failed

end_fault_is : (x : Request) (o : core.Outcome) (code : ℕ) → EndReply (Some x) o (reply.Failed code) → (c : ℕ) × (o ≡ outcome.Fault c)
end_fault_is x (outcome.Fault c) code h = (c, refl)
end_fault_is x (outcome.Read bytes) code h = absurd h
end_fault_is x outcome.Written code h = absurd h

-- an end that answers a code was of a call that failed
end_fault : (w new : WorldSeen) (t code : ℕ) → WorldStep (world_of w) (Finish t (reply.Failed code)) (world_of new) → (c : ℕ) × (finmap.get w.outcomes t ≡ Some (outcome.Fault c))
end_fault w new t code m = by (finmap.get w.core.requests t) (finmap.get w.outcomes t) refl m
  where
    by : (q : Option Request) (o : Option core.Outcome) → finmap.get w.outcomes t ≡ o → Ends (world_of w) t q o (reply.Failed code) (world_of new) → (c : ℕ) × (finmap.get w.outcomes t ≡ Some (outcome.Fault c))
    by (Some x) (Some o) noted h = elim (of_end w.core x.kind (own_end w.core t x o) (reply.Failed code) new.core h.0) [
      | inl same ↦ absurd (let e = same.1 in cc)
      | inr a ↦ (let f = end_fault_is a.x o code a.reply in (f.0, noted ∙ ap Some f.1))
    ]
    by (Some x) None noted h = absurd h
    by None o noted h = absurd h

pub carried_faulted : (s : SoloSeen) (w : WorldSeen) (errors : RecorderSeen) (e : Event) (code : ℕ) → Carried s.world s.errors e (reply.Failed code) w errors → IsSound s.world → Faulted s (record s { world = w; errors = errors })
carried_faulted s w errors e code c i =
    let fault = end_fault c.called w c.serial.0 code c.end.0 in
    let done = c.call.done in
    let failed : Some (outcome_of c.call.job.kind done.outcome done.bytes) ≡ Some (outcome.Fault fault.0) = sym (outcome_noted c.begun c.called c.serial.0 c.call) ∙ fault.1 in
    let k = call_by c.begun.device c.called.device _ _ _ _ _ c.call.performs.call in
    let f = call_failed c.begun.device c.called.device c.call.job.kind done.outcome done.bytes fault.0 k (some_same _ _ failed) (subst (λ d. d.calls ≤ max_calls) (sym c.begin.1) i.counted) in
    subst (λ d. (d.faults < w.device.faults) ⊎ (w.device.calls ≡ max_calls)) c.begin.1 (subst (λ d. (c.begun.device.faults < d.faults) ⊎ (d.calls ≡ max_calls)) (sym c.end.1) f)
  where
    some_same : (a b : core.Outcome) → Some a ≡ Some b → a ≡ b
    some_same a b e = cc

faulted_by : (s : SoloSeen) (w : WorldSeen) (errors : RecorderSeen) (h : HandleId) (p : PageIndex) (code : ℕ) → Once s.world s.errors (event.FillBegin h p) (reply.Failed code) w errors → IsSound s.world → Faulted s (record s { world = w; errors = errors })
faulted_by s w errors h p code (Quiet j m none) i = absurd (let f = fill_fair _ _ _ _ _ m.0.1.0 in cc)
faulted_by s w errors h p code (Whole c) i = carried_faulted s w errors _ code c i

-- and the steps that it was
fails_fill : (old new : WorldSeen) (errors after : RecorderSeen) (h : HandleId) (p : PageIndex) (code : ℕ)
    → AtOnce old errors (step.FillBegin h p) (reply.Failed code) new after → FailsFill old h.0 p code new
fails_fill old new errors after h p code (inl a) = absurd (let f = fill_fair _ _ _ _ _ a.1.0.1.0 in cc)
fails_fill old new errors after h p code (inr (t, mid, begun, plays, noted)) =
    (old, moves_refl (is_help h.0 (Some p)) old, t, (mid, inl begun, plays))

pub fill_faulted : (s : SoloSeen) (w : WorldSeen) (errors : RecorderSeen) (h : HandleId) (p : PageIndex) (want : Option Refusal) (code : ℕ)
    → AtOnce s.world s.errors (step.FillBegin h p) (reply.Failed code) w errors → IsSound s.world
    → IsFillRefusal s h p want (Io code) (record s { world = w; errors = errors })
fill_faulted s w errors h p want code a i = (
  faulted_by s w errors h p code (once s.world w s.errors errors _ _ _ (fill_begins h p) a) i,
  fails_fill s.world w s.errors errors h p code a,
)

-- ---- an age and an eviction

evicted_quiet : (r : Option (FileId × PageIndex)) → is_job (evicted r) ≡ false
evicted_quiet None = refl
evicted_quiet (Some x) = refl

module _ (s : SoloSeen) (aged new : WorldSeen) (n : ℕ) (r : Option (FileId × PageIndex)) (a : Made s.world event.Age (reply.Aged n) aged) (e : Made aged event.Evict (evicted r) new) where
  evicted_serves : IsSound s.world → Serves s (record s { world = new })
  evicted_serves i =
      let g = made_goes s aged event.Age (reply.Aged n) a refl i in
      serves_trans s (record s { world = aged }) _ g.serves (made_goes (record s { world = aged }) new event.Evict (evicted r) e refl g.sound).serves

  pub evicted_helps : {k : ℕ} {page : Option PageIndex} → IsSound s.world → Helps k page s (record s { world = new })
  evicted_helps {k} {page} i = record {
    serves = evicted_serves i;
    moves = moves_trans (is_help k page) s.world aged new (one_move (is_help k page) s.world aged step.Age (reply.Aged n) refl a)
        (one_move (is_help k page) aged new step.Evict (evicted r) refl e);
  }

  pub evicted_service : (name : ℕ) (table : TableId) → IsService name s.world table s.errors → IsService name new table s.errors
  evicted_service name table i = service_acted name aged new table s.errors (service_acted name s.world aged table s.errors i event.Age (reply.Aged n) a.0 a.1 refl refl) event.Evict (evicted r) e.0 e.1 refl (evicted_quiet r)

-- ---- a flush in one

noted_same : (writing : finmap.FinMap nat_cmp (List ℕ)) (r : Reply) (s : State) → replies.is_job r ≡ false → noted writing r s ≡ writing
noted_same writing (reply.Job t) s j = absurd cc
noted_same writing _ s j = refl

pub held_same : (old new : WorldSeen) (e : Event) (r : Reply) → Made old e r new → replies.is_job r ≡ false → new.core ≡ old.core → new ≡ old
held_same old new e r m j c =
    let o = ap (λ x. x.outcomes) m.0.1.1 in
    let b = ap (λ x. x.writing) m.0.1.1 ∙ noted_same old.writing r new.core j in
    λ i. record { core = c i; device = m.1 i; unflushed = m.2 i; outcomes = o i; writing = b i }

squeezed : (m n c : ℕ) → m ≤ n → n ≤ c → c ≤ m → c ≡ m
squeezed m n c a b d = omega arith

-- which it is only by a device that can count no more
full_fails : (name : ℕ) (s : SoloSeen) (table : TableId) → IsServing name s.world table s.errors → is_full s.world.core ≡ true → FailsFlush s s
full_fails name s table i full = record {
  faulted = inr (squeezed max_calls s.world.core.next s.world.device.calls (no_serial s.world.core i.rests.requests full) i.serials i.counted);
  still = λ d h o n. refl;
}

no_flush : (s : State) (f : FileId) (r : Reply) → replies.is_job r ≡ false → MayReply s (event.FlushBegin f) r → ⊥
no_flush s f (reply.Job t) j e = absurd cc
no_flush s f _ j e = e

quiet_flush : (s new : SoloSeen) (f : FileId) (r : Reply) → replies.is_job r ≡ false → Step s.world.core (event.FlushBegin f) r new.world.core → (new.world.core ≡ s.world.core → new ≡ s) → (is_full s.world.core ≡ true → FailsFlush s s) → IsFlush s f r new
quiet_flush s new f r j a same full = elim (answered (tests s.world.core (event.FlushBegin f)) s.world.core (event.FlushBegin f) r new.world.core a) [
  | inl x ↦ tested (same x.1) r x.0 x.0
  | inr x ↦ absurd (no_flush s.world.core f r j x.1)
]
  where
    Flushed : Reply → Type 0
    Flushed r = tests s.world.core (event.FlushBegin f) ≡ Some r → IsFlush s f r new

    tested : new ≡ s → (r : Reply) → tests s.world.core (event.FlushBegin f) ≡ Some r → Flushed r
    tested e =
        quiet_when Flushed (nat_le (length s.world.core.files) f.0) (reply.Refused NoSuchFile) _ (λ h _. (leb-true _ _ h, e))
        (quiet_when Flushed (not (is_some (flush_pick (file_at s.world.core f.0)))) reply.Nothing _ (λ _ is. (is, e))
        (quiet_when Flushed (is_full s.world.core) (reply.Refused TooManyInFlight) None (λ h _. subst (FailsFlush s) (sym e) (full h)) (quiet_none Flushed)))

-- the end of a flush that was not dropped
flush_ended : (x : Request) (o : core.Outcome) (r : Reply) → x.dropped ≡ false → fits Flush o ≡ true → EndReply (Some x) o r → (r ≡ reply.Written) ⊎ ((code : ℕ) × (r ≡ reply.Failed code))
flush_ended x o reply.Dropped live fit h = absurd (let d : x.dropped ≡ true = h in cc)
flush_ended x (outcome.Fault c) (reply.Failed d) live fit h = inr (d, refl)
flush_ended x (outcome.Read b) reply.Filled live fit h = absurd (let e : false ≡ true = fit in cc)
flush_ended x outcome.Written reply.Written live fit h = inl refl
flush_ended x o r live fit h = absurd h

end_of_flush : (w new : WorldSeen) (t : ℕ) (x : Request) (r : Reply) → finmap.get w.core.requests t ≡ Some x → x.kind ≡ Flush → x.dropped ≡ false → r ≢ reply.Refused Stranger → WorldStep (world_of w) (Finish t r) (world_of new) → (r ≡ reply.Written) ⊎ ((code : ℕ) × (r ≡ reply.Failed code))
end_of_flush w new t x r is kind live answers m = by (finmap.get w.outcomes t) (subst (λ q. Ends (world_of w) t q (finmap.get w.outcomes t) r (world_of new)) is m)
  where
    by : (o : Option core.Outcome) → Ends (world_of w) t (Some x) o r (world_of new) → (r ≡ reply.Written) ⊎ ((code : ℕ) × (r ≡ reply.Failed code))
    by None h = absurd h
    by (Some o) h = elim (of_end w.core x.kind (own_end w.core t x o) r new.core h.0) [
      | inl same ↦ absurd (answers same.1)
      | inr a ↦ (let both : Some a.x ≡ Some x = sym a.may.is ∙ is in let same : a.x ≡ x = cc in
          flush_ended a.x o r (ap (λ (y : Request). y.dropped) same ∙ live) (subst (λ k. fits k o ≡ true) kind a.may.fitting) a.reply)
    ]

-- the request of a flush that has begun
pub begun_flush : (old begun : WorldSeen) (f : FileId) (t : Serial) → Made old (event.FlushBegin f) (reply.Job t) begun → (x : Request) × (finmap.get begun.core.requests t.0 ≡ Some x) × (x.kind ≡ Flush) × (x.dropped ≡ false)
begun_flush old begun f t m =
    let a = happened old.core (event.FlushBegin f) (reply.Job t) begun.core m.0.1.0 refl (λ n o e. cc) in
    let put : (x : Request) → finmap.get (finmap.insert old.core.requests old.core.next x) t.0 ≡ Some x = λ x. subst (λ n. finmap.get (finmap.insert old.core.requests n x) t.0 ≡ Some x) a.may (get-insert1 old.core.requests t.0 x t.0 ∙ put1_here _ t.0 _) in
    (_, ap (λ (c : State). finmap.get c.requests t.0) a.is ∙ put _, refl, refl)

carried_flush : (s : SoloSeen) (w : WorldSeen) (errors : RecorderSeen) (f : FileId) (r : Reply) → Carried s.world s.errors (event.FlushBegin f) r w errors → AtOnce s.world s.errors (step.FlushBegin f) r w errors → IsSound s.world → s.world.core.requests ≡ finmap.empty → w.core.requests ≡ finmap.empty → IsFlush s f r (record s { world = w; errors = errors })
carried_flush s w errors f r c a i before rests =
    let b = begun_flush s.world c.begun f c.serial c.begin in
    let is : finmap.get c.called.core.requests c.serial.0 ≡ Some b.0 = ap (λ (x : WorldSeen). finmap.get x.core.requests c.serial.0) c.call.noted ∙ b.1 in
    elim (end_of_flush c.called w c.serial.0 b.0 r is b.2 b.3 c.ended c.end.0) [
      | inl e ↦ subst (λ x. IsFlush s f x (record s { world = w; errors = errors })) (sym e) (subst (λ x. AtOnce s.world s.errors (step.FlushBegin f) x w errors) e a)
      | inr e ↦ (let k = subst (λ x. Carried s.world s.errors (event.FlushBegin f) x w errors) e.1 c in
          subst (λ x. IsFlush s f x (record s { world = w; errors = errors })) (sym e.1) (record {
            faulted = carried_faulted s w errors _ e.0 k i;
            still = carried_still s.world w s.errors errors f e.0 k before rests;
          }))
    ]

once_flush : (name : ℕ) (s : SoloSeen) (w : WorldSeen) (errors : RecorderSeen) (table : TableId) (f : FileId) (r : Reply) → Once s.world s.errors (event.FlushBegin f) r w errors → AtOnce s.world s.errors (step.FlushBegin f) r w errors → IsServing name s.world table s.errors → IsFlush s f r (record s { world = w; errors = errors })
once_flush name s w errors table f r (Quiet j m none) a i =
    quiet_flush s (record s { world = w; errors = errors }) f r j m.0.1.0
    (λ c. let e = held_same s.world w (event.FlushBegin f) r m j c in λ k. record s { world = e k; errors = none k })
    (full_fails name s table i)
once_flush name s w errors table f r (Whole c) a i = carried_flush s w errors f r c a (service_sound name s.world table s.errors i) i.rests.requests
    (at_once_serving name s w errors table (step.FlushBegin f) (event.FlushBegin f) r (laws.flush_begins f) a i).rests.requests

pub at_once_flush : (name : ℕ) (s : SoloSeen) (w : WorldSeen) (errors : RecorderSeen) (table : TableId) (f : FileId) (r : Reply) → AtOnce s.world s.errors (step.FlushBegin f) r w errors → IsServing name s.world table s.errors → IsFlush s f r (record s { world = w; errors = errors })
at_once_flush name s w errors table f r a i = once_flush name s w errors table f r (once s.world w s.errors errors (step.FlushBegin f) (event.FlushBegin f) r (laws.flush_begins f) a) a i

-- ---- an eviction that finds no idle page

none_evicted : (s new : State) (r : Option (FileId × PageIndex)) → is_some r ≡ false → Step s event.Evict (evicted r) new → (tests s event.Evict ≡ Some reply.NoneIdle) × (new ≡ s)
none_evicted s new None e a = elim (answered (tests s event.Evict) s event.Evict reply.NoneIdle new a) [ inl x ↦ x | inr x ↦ absurd x.1 ]
none_evicted s new (Some x) e a = absurd cc

-- after an age and an eviction that found one there is room for a frame
pub evicted_for_frame : (s : SoloSeen) (aged new : WorldSeen) (n : ℕ) (r : Option (FileId × PageIndex)) → Made s.world event.Age (reply.Aged n) aged → Made aged event.Evict (evicted r) new → is_some r ≡ true → MakesRoom s NoFrame (record s { world = new })
evicted_for_frame s aged new n (Some x) a e some =
    let same = held_same s.world aged event.Age (reply.Aged n) a refl a.0.1.0.1 in
    inl (x.0, x.1, subst (λ (w : WorldSeen). Step w.core event.Evict (reply.Evicted x.0 x.1) new.core) same e.0.1.0)
evicted_for_frame s aged new n None a e some = absurd cc

-- after an age and an eviction that found none a flush makes room for a frame
pub flushed_for_frame : (s new : SoloSeen) (aged mid : WorldSeen) (n : ℕ) (r : Option (FileId × PageIndex)) → Made s.world event.Age (reply.Aged n) aged → Made aged event.Evict (evicted r) mid → is_some r ≡ false → FlushesOne (record s { world = mid }) true new → MakesRoom s NoFrame new
flushed_for_frame s new aged mid n r a e none f =
    let same = held_same s.world aged event.Age (reply.Aged n) a refl a.0.1.0.1 in
    let x = none_evicted aged.core mid.core r none e.0.1.0 in
    let still = held_same aged mid event.Evict (evicted r) e (evicted_quiet r) x.1 ∙ same in
    inr (ap (λ (w : WorldSeen). tests w.core event.Evict) (sym same) ∙ x.0, subst (λ w. FlushesOne (record s { world = w }) true new) still f)

-- and where the flush failed too, or found nothing
pub stuck_for_frame : (s new : SoloSeen) (aged mid : WorldSeen) (n : ℕ) (r : Option (FileId × PageIndex)) → Made s.world event.Age (reply.Aged n) aged → Made aged event.Evict (evicted r) mid → is_some r ≡ false → FlushesOne (record s { world = mid }) false new → (tests s.world.core event.Evict ≡ Some reply.NoneIdle) × FlushesOne s false new
stuck_for_frame s new aged mid n r a e none f =
    let same = held_same s.world aged event.Age (reply.Aged n) a refl a.0.1.0.1 in
    let x = none_evicted aged.core mid.core r none e.0.1.0 in
    let still = held_same aged mid event.Evict (evicted r) e (evicted_quiet r) x.1 ∙ same in
    (ap (λ (w : WorldSeen). tests w.core event.Evict) (sym same) ∙ x.0, subst (λ w. FlushesOne (record s { world = w }) false new) still f)
