-- What the steps of a world leave of its handles, its files and its serials.
use Rattle.std.proofs.Common.{◌≡◌, ◌≢◌, ℕ, ◌+◌, ◌<◌, ◌≤◌, Bool, true, false, List, [], ◌∷◌, ◌++◌, length, refl, ap, sym}
use Rattle.std.proofs.Common.{subst, ◌∙◌, arith, inl, inr}
use Rattle.std.specs.Prelude.{Option, Some, None, nat_le, slice_set}
use Rattle.std.specs.FinMap as finmap
use Rattle.std.proofs.Math.ListN.{length-set}
use Rattle.std.proofs.lemmas.List.{length-append}
use Rattle.pc_types.specs.declared.ids.FileId.{FileId}
use Rattle.pc_types.specs.declared.ids.HandleId.{HandleId}
use Rattle.pc_types.specs.declared.ids.PageIndex.{PageIndex}
use Rattle.pc_types.specs.declared.ids.Serial.{Serial}
use Rattle.pc_types.specs.declared.ids.SyncId.{SyncId}
use Rattle.pc_types.specs.declared.limits.TheConstants.{LAST_PAGE, MAX_FILES, MAX_HANDLES, MAX_IN_FLIGHT}
use Rattle.pc_types.specs.declared.limits.TheConstants.{SERIAL_END}
use Rattle.pc_types.specs.declared.refusal.Refusal.TheVariants.{Memory}
use Rattle.machine.specs.declared.event.Event.{Event}
use Rattle.machine.specs.declared.event.Event.TheVariants as event
use Rattle.machine.specs.declared.event.Outcome.{Outcome}
use Rattle.machine.specs.declared.event.Reply.{Reply}
use Rattle.machine.specs.declared.event.Reply.TheVariants as reply
use Rattle.machine.specs.State.{State, File, Request, is_open, no_file}
use Rattle.machine.specs.Changes.{changed}
use Rattle.machine.specs.Step.{Step, MayReply}
use Rattle.machine.specs.Tests.{tests, is_full}
use Rattle.machine.proofs.steps.Answered.{is_quiet}
use Rattle.machine.proofs.steps.Cases.{Cases, IsVerdict, answered, by_cases, happened}
use Rattle.machine.proofs.steps.Choices.{below, if_none, neither, none_of}
use Rattle.machine.proofs.steps.Passed.{may_begin}
use Rattle.runs.specs.World.{Acts, Ends}
use Rattle.world.specs.declared.step.Step.{Step as Made}
use Rattle.world.specs.declared.step.Step.TheVariants as step
use Rattle.world.specs.Stepping.{WorldSeen, world_of, IsMade, IsNotMade, CallReply, EndReply, Steps}

-- ---- a step of the cache

-- a job takes the next serial, where there is one
pub record Takes (s new : State) : Type 0 where
  pub left : s.next < SERIAL_END
  pub next : new.next ≡ s.next + 1

-- whether an event may open or close a handle, and whether it may begin a request
abbrev moves : Event → Bool
moves (event.Open f) = true
moves (event.Close h) = true
moves _ = false

abbrev begins : Event → Bool
begins (event.FillBegin h p) = true
begins (event.FlushBegin f) = true
begins (event.SyncStep m) = true
begins _ = false

-- what a step leaves
record Leaves (s : State) (e : Event) (r : Reply) (new : State) : Type 0 where
  pub handles : moves e ≡ false → new.handles ≡ s.handles
  pub files : length s.files ≤ MAX_FILES → length new.files ≤ MAX_FILES
  pub next : begins e ≡ false → new.next ≡ s.next
  pub job : (t : Serial) → r ≡ reply.Job t → Takes s new

module _ (s : State) where
  -- the handles, how many files there are, and the serials stay
  stays : (e : Event) (r : Reply) (new : State) → new.handles ≡ s.handles → length new.files ≡ length s.files
      → new.next ≡ s.next → ((t : Serial) → r ≢ reply.Job t) → Leaves s e r new
  stays e r new handles files next none = record {
    handles = λ _. handles;
    files = λ few. omega arith;
    next = λ _. next;
    job = λ t is. absurd (none t is);
  }

  -- file f is changed
  changes : (e : Event) (r : Reply) (f : ℕ) (file : File) (new : State) → new.handles ≡ s.handles
      → new.files ≡ slice_set s.files f file → new.next ≡ s.next → ((t : Serial) → r ≢ reply.Job t) → Leaves s e r new
  changes e r f file new handles files next none =
      stays e r new handles (ap length files ∙ length-set s.files f file) next none

  -- a request begins
  takes : (e : Event) (t : Serial) (new : State) → begins e ≡ true → new.handles ≡ s.handles
      → length new.files ≡ length s.files → new.next ≡ s.next + 1 → is_full s ≡ false → Leaves s e (reply.Job t) new
  takes e t new may handles files next room = record {
    handles = λ _. handles;
    files = λ few. omega arith;
    next = λ k. absurd (let clash : true ≡ false = sym may ∙ k in cc);
    job = λ u is. record {
      left = below s.next SERIAL_END
          (neither (nat_le MAX_IN_FLIGHT (finmap.len s.requests)) (nat_le SERIAL_END s.next) room).1;
      next = next;
    };
  }

  cases : Cases s (Leaves s)
  cases = record {
    same = λ e r step quiet. stays e r s refl refl refl
        (λ t is. (let clash : true ≡ false = sym quiet ∙ ap is_quiet is in cc));
    writes_none = λ e h o is step. stays e _ s refl refl refl (λ t is. cc);
    creates = λ f room is. record {
      handles = λ _. refl;
      files = λ few. (let more = length-append s.files (no_file ∷ []) in omega arith);
      next = λ _. refl;
      job = λ t is. absurd cc;
    };
    opens = λ f h known room low. record {
      handles = λ k. absurd cc;
      files = λ few. few;
      next = λ _. refl;
      job = λ t is. absurd cc;
    };
    closes = λ h is none. record {
      handles = λ k. absurd cc;
      files = λ few. few;
      next = λ _. refl;
      job = λ t is. absurd cc;
    };
    writes = λ e h o b is may. changes e _ _ _ _ refl refl refl (λ t is. cc);
    shrinks = λ h z may less. changes _ _ _ _ _ refl refl refl (λ t is. cc);
    grows = λ h z may more. changes _ _ _ _ _ refl refl refl (λ t is. cc);
    makes_zeros = λ h p may un. changes _ _ _ _ _ refl refl refl (λ t is. cc);
    evicts = λ f p page is idle. changes _ _ _ _ _ refl refl refl (λ t is. cc);
    fills = λ h p t may is room serial. takes _ t _ refl refl refl refl room;
    flushes = λ f p page t may serial. takes _ t _ refl refl (length-set s.files _ _) refl may.room;
    drops = λ kind end x may d. stays _ _ _ refl refl refl (λ t is. cc);
    fill_fails = λ end x c may d is. stays _ _ _ refl refl refl (λ t is. cc);
    fill_ends = λ end x b may d is. changes _ _ _ _ _ refl refl refl (λ t is. cc);
    flush_fails = λ end x c may d is. changes _ _ _ _ _ refl refl refl (λ t is. cc);
    flush_ends = λ end x may d is. changes _ _ _ _ _ refl refl refl (λ t is. cc);
    begins = λ h first last m may low. changes _ _ _ _ _ refl refl refl (λ t is. cc);
    starts = λ m y p page t is may serial. takes _ t _ refl refl (length-set s.files _ _) refl may.room;
    waits = λ m y e p is pick first at. record {
      handles = λ _. refl;
      files = λ few. few;
      next = λ k. absurd cc;
      job = λ t is. absurd cc;
    };
    over = λ m y r is pick first v. stays _ r _ refl refl refl (λ t k. subst (IsVerdict s y) k v);
    sync_drops = λ m y is. stays _ _ _ refl refl refl (λ t is. cc);
  }

  leaves : (e : Event) (r : Reply) (new : State) → Step s e r new → Leaves s e r new
  leaves e r new step = by_cases s (Leaves s) cases e r new step

-- ---- a step of the world

-- whether the step may open or close a handle, and whether it may begin a request
abbrev pub moves_handles : Made → Bool
moves_handles (step.Open f) = true
moves_handles (step.Close h) = true
moves_handles _ = false

abbrev pub may_begin_request : Made → Bool
may_begin_request (step.FillBegin h p) = true
may_begin_request (step.FlushBegin f) = true
may_begin_request (step.SyncStep m) = true
may_begin_request _ = false

pub record Left (old new : WorldSeen) (s : Made) (r : Reply) : Type 0 where
  pub handles : moves_handles s ≡ false → new.core.handles ≡ old.core.handles
  pub files : length old.core.files ≤ MAX_FILES → length new.core.files ≤ MAX_FILES
  pub next : may_begin_request s ≡ false → new.core.next ≡ old.core.next
  pub job : (t : Serial) → r ≡ reply.Job t → Takes old.core new.core

module _ (old new : WorldSeen) where
  -- the cache made an event
  acted : (s : Made) (e : Event) (r : Reply) → (moves_handles s ≡ false → moves e ≡ false)
      → (may_begin_request s ≡ false → begins e ≡ false) → Step old.core e r new.core → Left old new s r
  acted s e r quiet none h = let a = leaves old.core e r new.core h in record {
    handles = λ k. a.handles (quiet k);
    files = a.files;
    next = λ k. a.next (none k);
    job = a.job;
  }

  -- the cache is as it was
  same_core : (s : Made) (r : Reply) → ((t : Serial) → r ≢ reply.Job t) → new.core ≡ old.core → Left old new s r
  same_core s r none same = record {
    handles = λ _. ap (λ (x : State). x.handles) same;
    files = λ few. subst (λ (x : State). length x.files ≤ MAX_FILES) (sym same) few;
    next = λ _. ap (λ (x : State). x.next) same;
    job = λ t is. absurd (none t is);
  }

  not_made : (s : Made) (r : Reply) → IsNotMade old Memory r new → Left old new s r
  not_made s r m = same_core s r (λ t is. (let no_job = m.0 in cc)) (ap (λ (x : WorldSeen). x.core) m.1)

  called : (s : Made) (t : ℕ) (r : Reply) (q : Option Request) (o : Option Outcome) → CallReply old t q o r new
      → Left old new s r
  called s t r (Some x) None h = same_core s r (λ t is. (let no_job = h.0 in cc)) (ap (λ (x : WorldSeen). x.core) h.1.noted)
  called s t r (Some x) (Some o) h = same_core s r (λ t is. (let no_job = h.0 in cc)) (ap (λ (x : WorldSeen). x.core) h.1)
  called s t r None o h = same_core s r (λ t is. (let no_job = h.0 in cc)) (ap (λ (x : WorldSeen). x.core) h.1)

  finished : (t : ℕ) (r : Reply) (q : Option Request) (o : Option Outcome)
      → Ends (world_of old) t q o r (world_of new) → Left old new (step.End (record { 0 = t })) r
  finished t r (Some x) (Some call) h =
      acted (step.End (record { 0 = t })) (event.End x.kind _) r (λ k. refl) (λ k. refl) h.0
  finished t r (Some x) None h = absurd h
  finished t r None o h = absurd h

  ended : (t : Serial) (r : Reply) (o : Option Outcome) → EndReply old (step.End t) o r new → Left old new (step.End t) r
  ended t r (Some o) h =
      finished t.0 r (finmap.get old.core.requests t.0) (finmap.get old.outcomes t.0) h.0.0
  ended t r None h = same_core (step.End t) r (λ t is. (let no_job = h.0 in cc)) (ap (λ (x : WorldSeen). x.core) h.1)

  pub left_by : (s : Made) (r : Reply) → Steps old s r new → Left old new s r
  left_by step.Create r m = acted step.Create event.Create r (λ k. k) (λ k. k) m.0.1.0
  left_by (step.Open f) r m = acted (step.Open f) (event.Open f) r (λ k. k) (λ k. k) m.0.1.0
  left_by (step.Close h) r m = acted (step.Close h) (event.Close h) r (λ k. k) (λ k. k) m.0.1.0
  left_by (step.Size h) r m = acted (step.Size h) (event.Size h) r (λ k. k) (λ k. k) m.0.1.0
  left_by (step.Read h o n) r (inl m) = acted (step.Read h o n) (event.Read h o n) r (λ k. k) (λ k. k) m.0.1.0
  left_by (step.Read h o n) r (inr m) = not_made (step.Read h o n) r m
  left_by (step.Write h o b) r m = acted (step.Write h o b) (event.Write h o b) r (λ k. k) (λ k. k) m.0.1.0
  left_by (step.Append h b) r m = acted (step.Append h b) (event.Append h b) r (λ k. k) (λ k. k) m.0.1.0
  left_by (step.Truncate h z) r m = acted (step.Truncate h z) (event.Truncate h z) r (λ k. k) (λ k. k) m.0.1.0
  left_by (step.FillBegin h p) r (inl m) =
      acted (step.FillBegin h p) (event.FillBegin h p) r (λ k. k) (λ k. k) m.0.1.0
  left_by (step.FillBegin h p) r (inr m) = not_made (step.FillBegin h p) r m
  left_by (step.FlushBegin f) r (inl m) = acted (step.FlushBegin f) (event.FlushBegin f) r (λ k. k) (λ k. k) m.0.1.0
  left_by (step.FlushBegin f) r (inr m) = not_made (step.FlushBegin f) r m
  left_by step.Evict r m = acted step.Evict event.Evict r (λ k. k) (λ k. k) m.0.1.0
  left_by step.Age r m = acted step.Age event.Age r (λ k. k) (λ k. k) m.0.1.0
  left_by (step.SyncBeginRange h first last) r m =
      acted (step.SyncBeginRange h first last) (event.SyncBegin h first last) r (λ k. k) (λ k. k) m.0.1.0
  left_by (step.SyncBegin h) r m =
      acted (step.SyncBegin h) (event.SyncBegin h (record { 0 = 0 }) (record { 0 = LAST_PAGE })) r (λ k. k) (λ k. k)
      m.0.1.0
  left_by (step.SyncStep n) r (inl m) = acted (step.SyncStep n) (event.SyncStep n) r (λ k. k) (λ k. k) m.0.1.0
  left_by (step.SyncStep n) r (inr m) = not_made (step.SyncStep n) r m
  left_by (step.SyncDrop n) r m = acted (step.SyncDrop n) (event.SyncDrop n) r (λ k. k) (λ k. k) m.0.1.0
  left_by (step.Call t) r m =
      called (step.Call t) t.0 r (finmap.get old.core.requests t.0) (finmap.get old.outcomes t.0) m
  left_by (step.End t) r m = ended t r (finmap.get old.outcomes t.0) m

-- ---- a handle that is opened, and one that is closed

-- a file is opened by this handle
pub record Opens (s : State) (f h : ℕ) (new : State) : Type 0 where
  pub here : f < length s.files
  pub room : finmap.len s.handles < MAX_HANDLES
  pub apart : finmap.get s.handles h ≡ None
  pub handles : new.handles ≡ finmap.insert s.handles h f

-- a reply that is none of the event's changes leaves the handles
module _ (s new : State) (e : Event) (r : Reply) where
  by_answer : (MayReply s e r → new ≡ changed s e r → new.handles ≡ s.handles) → Step s e r new
      → new.handles ≡ s.handles
  by_answer on step = elim (answered (tests s e) s e r new step) [
    | inl a ↦ ap (λ (x : State). x.handles) a.1
    | inr a ↦ on a.1 a.2
  ]

module _ (s new : State) (f : FileId) where
  pub opens_core : (h : HandleId) → Step s (event.Open f) (reply.Handle h) new → Opens s f.0 h.0 new
  opens_core h step =
      let a = happened s (event.Open f) (reply.Handle h) new step refl (λ n o k. cc) in
      let here = if_none (nat_le (length s.files) f.0) _ _ a.untested in
      let room = if_none (nat_le MAX_HANDLES (finmap.len s.handles)) _ None here.1 in
      record {
        here = below _ _ here.0;
        room = below _ _ room.0;
        apart = none_of (finmap.get s.handles h.0) a.may.0;
        handles = ap (λ (x : State). x.handles) a.is;
      }

  not_so : (r : Reply) → ((h : HandleId) → r ≢ reply.Handle h) → MayReply s (event.Open f) r
      → new ≡ changed s (event.Open f) r → new.handles ≡ s.handles
  not_so (reply.Handle h) other may is = absurd (other h refl)
  not_so (reply.Refused Memory) other may is = ap (λ (x : State). x.handles) is
  not_so _ other may is = absurd may

  -- a file that is not opened leaves the handles
  pub not_opened : (r : Reply) → ((h : HandleId) → r ≢ reply.Handle h) → Step s (event.Open f) r new
      → new.handles ≡ s.handles
  not_opened r other step = by_answer s new (event.Open f) r (not_so r other) step

module _ (s new : State) (h : HandleId) where
  pub closes_core : Step s (event.Close h) reply.Closed new → new.handles ≡ finmap.remove s.handles h.0
  closes_core step =
      ap (λ (x : State). x.handles) (happened s (event.Close h) reply.Closed new step refl (λ n o k. cc)).is

  not_then : (r : Reply) → r ≢ reply.Closed → MayReply s (event.Close h) r → new ≡ changed s (event.Close h) r
      → new.handles ≡ s.handles
  not_then reply.Closed other may is = absurd (other refl)
  not_then _ other may is = absurd may

  -- a handle that is not closed stays
  pub not_closed : (r : Reply) → r ≢ reply.Closed → Step s (event.Close h) r new → new.handles ≡ s.handles
  not_closed r other step = by_answer s new (event.Close h) r (not_then r other) step

  -- a sync that begins has an open handle
  pub sync_has_handle : (first last : PageIndex) (m : SyncId) → Step s (event.SyncBegin h first last) (reply.Sync m) new
      → is_open s h.0 ≡ true
  sync_has_handle first last m step =
      (may_begin s h first last
      (happened s (event.SyncBegin h first last) (reply.Sync m) new step refl (λ n o k. cc)).untested).opened
