-- What a step of the world leaves of a service: an event, a device call, an end, or a request with all three.
use Rattle.std.proofs.Common.{◌≡◌, ℕ, ◌+◌, ◌<◌, ◌≤◌, Bool, true, false, not, List, [], ◌∷◌, length, refl, ap, sym, subst, ◌∙◌, arith, inl, inr}
use Rattle.std.specs.Prelude.{◌⊎◌, ◌≢◌, if◌then◌else◌, Option, Some, None, is_some, option_map, IfSome, Ok, Err}
use Rattle.std.specs.FinMap as finmap
use Rattle.atomic_table.specs.Seated.{TableId}
use Rattle.errseq.proofs.Prefixes.{prefix_self}
use Rattle.errboard.specs.Shown.{RecorderSeen}
use Rattle.blockdev.specs.Device.{Told, Outcome, Calls, max_calls}
use Rattle.blockdev.specs.Jobs.{FinishedTask, Performs, Task, Transfers}
use Rattle.pc_types.specs.declared.ids.FileId.{FileId}
use Rattle.pc_types.specs.declared.ids.HandleId.{HandleId}
use Rattle.pc_types.specs.declared.ids.PageIndex.{PageIndex}
use Rattle.pc_types.specs.declared.ids.Serial.{Serial}
use Rattle.pc_types.specs.declared.ids.SyncId.{SyncId}
use Rattle.pc_types.specs.Limits.{Sizes}
use Rattle.pc_types.specs.declared.limits.TheConstants.{MAX_FILES, MIN_DIRTY_LIMIT, MIN_FRAMES, MIN_PAGE_SIZE}
use Rattle.pc_types.specs.Kinds.{is_flush}
use Rattle.pc_types.specs.declared.kind.Kind.{Kind}
use Rattle.pc_types.specs.declared.kind.Kind.TheVariants.{Fill, Flush}
use Rattle.pc_types.specs.declared.refusal.Refusal.TheVariants.{Stranger}
use Rattle.machine.specs.declared.event.Event.{Event}
use Rattle.machine.specs.declared.event.Event.TheVariants as event
use Rattle.machine.specs.declared.event.Outcome as core
use Rattle.machine.specs.Sound.{Sound}
use Rattle.machine.specs.declared.event.Outcome.TheVariants as outcome
use Rattle.std.specs.Ordering.{nat_cmp}
use Rattle.std.specs.FinMap.{get-empty}
use Rattle.machine.specs.declared.event.Reply.{Reply}
use Rattle.machine.specs.declared.event.Reply.TheVariants as reply
use Rattle.cachecore.specs.Replies.{outcome_of}
use Rattle.cachecore.specs.Flushing.{flush_of, flushed_file}
use Rattle.machine.specs.State.{Request, State, file_at}
use Rattle.filesvc.proofs.SyncsKept.{begins_sync, act_none, finish_none, none_empty}
use Rattle.world.specs.declared.step.Step.{Step}
use Rattle.world.specs.declared.step.Step.TheVariants as step
use Rattle.runs.specs.Plain.{Plain, plain_after}
use Rattle.runs.specs.Reached.{IsReached}
use Rattle.world.specs.Stepping.{CallReply, EndReply, WorldSeen, IsCalled, IsMade, MovesByCall, Plays, Steps, world_of}
use Rattle.runs.specs.World.{Move, Act, Call, Finish, WorldStep}
use Rattle.world.proofs.InFlight.{NoneInFlight, OneInFlight, begins, next_rises, next_stays, none_stays, one_ends, one_is, one_noted}
use Rattle.runs.proofs.moments.KeptRequests as kept
use Rattle.runs.proofs.events.Lookups.{get-insert1}
use Rattle.runs.proofs.moments.Reached.{files_step, reached_step}
use Rattle.world.proofs.Stays.{handles_stay, keeps_handles, stays}
use Rattle.runs.proofs.views.View.{put1_here}
use Rattle.cachecore.specs.Replies.{is_job}
use Rattle.filesvc.specs.Rests.{AtOnce, IsAlone, IsNoted, IsResting, IsService, IsServing}
use Rattle.orderly.specs.Orderly.{IsOrderly}
use Rattle.filesvc.specs.Seen.{SoloSeen}
use Rattle.filesvc.specs.Service.{IsCoded, Keeps, Serves, Tells, files, untold_since}
use Rattle.filesvc.proofs.FailedWrites.{act_codes, act_failures, core_sound, failures_in, finish_codes, finish_rises}
use Rattle.filesvc.proofs.Noted.{Notes, change_alike, count_in, noted_codes, noted_rises, noted_untold, notes, rise_alike, untold_in}
use Rattle.orderly.proofs.FileSizes.{AreBounded, bounded_stays, leaves_lengths, lengths_stay}
use Rattle.filesvc.specs.Attempts.{Helps}
use Rattle.filesvc.specs.Made.{Moves, is_help}
use Rattle.filesvc.proofs.Laws.{one_move, three, serves_refl, serves_trans, since_same}
use Rattle.orderly.proofs.Orderly.{orderly_stays}

-- ---- a device call, on the device

-- what it leaves
pub record Counts (old new : Told) : Type 0 where
  pub tells : is_some new.contents ≡ is_some old.contents
  pub calls : old.calls ≤ max_calls → new.calls ≤ max_calls
  pub faults : old.calls ≤ max_calls → old.faults ≤ new.faults

at_most : (a m : ℕ) → a ≤ m → (a < m) ⊎ (a ≡ m)
at_most a m h = grind arith

one_more : (a b m : ℕ) → a < m → b ≡ a + 1 → b ≤ m
one_more a b m h e = omega arith

mapped : (g : List (List ℕ) → List (List ℕ)) (o : Option (List (List ℕ))) → is_some (option_map g o) ≡ is_some o
mapped g None = refl
mapped g (Some x) = refl

module _ (old new : Told) where
  tells_by : (k : Kind) (b : ℕ) (before : List ℕ) (r : Outcome) (after : List ℕ) → Transfers k old b before r after new → is_some new.contents ≡ is_some old.contents
  tells_by Fill b before r after t = ap is_some t.contents
  tells_by Flush b before (Ok _) after t = ap is_some t.0.written ∙ mapped _ old.contents
  tells_by Flush b before (Err c) after t = elim (t.0.whole) [ inl e ↦ ap is_some e | inr e ↦ ap is_some e ∙ mapped _ old.contents ]

  pub call_by : (k : Kind) (b : ℕ) (before : List ℕ) (r : Outcome) (after : List ℕ) → Transfers k old b before r after new → Calls old r new
  call_by Fill b before r after t = t.call
  call_by Flush b before r after t = t.0.call

  faults_by : (r : Outcome) → Calls old r new → old.calls < max_calls → old.faults ≤ new.faults
  faults_by (Ok _) c less = let e = c.well in omega (arith, e)
  faults_by (Err code) c less = let e = c.faults less in omega (arith, e)

  calls_by : (r : Outcome) → Calls old r new → old.calls ≤ max_calls → (new.calls ≤ max_calls) × (old.faults ≤ new.faults)
  calls_by r c most = elim (at_most old.calls max_calls most) [
    | inl less ↦ (one_more old.calls new.calls max_calls less (c.calls less), faults_by r c less)
    | inr full ↦ (let same = (c.exhausted full).1 in (subst (λ d. d.calls ≤ max_calls) (sym same) most, subst (λ d. old.faults ≤ d.faults) (sym same) (omega arith)))
  ]

  -- it is one more call at most
  pub one_call : (r : Outcome) → Calls old r new → old.calls ≤ max_calls → new.calls ≤ old.calls + 1
  one_call r c most = elim (at_most old.calls max_calls most) [
    | inl less ↦ (let e = c.calls less in omega arith)
    | inr full ↦ (let e : new.calls ≡ old.calls = ap (λ d. d.calls) (c.exhausted full).1 in omega arith)
  ]

  -- one that failed was counted, or the device can count no more
  pub call_failed : (k : Kind) (r : Outcome) (bytes : List ℕ) (c : ℕ) → Calls old r new → outcome_of k r bytes ≡ outcome.Fault c → old.calls ≤ max_calls → (old.faults < new.faults) ⊎ (new.calls ≡ max_calls)
  call_failed Fill (Ok _) bytes c k e most = absurd cc
  call_failed Flush (Ok _) bytes c k e most = absurd cc
  call_failed _ (Err code) bytes c k e most = elim (at_most old.calls max_calls most) [
    | inl less ↦ inl (let f = k.faults less in omega (arith, f))
    | inr full ↦ inr (ap (λ d. d.calls) (k.exhausted full).1 ∙ full)
  ]

  pub performed : (job : Task) (done : FinishedTask) → Performs old job done new → Counts old new
  performed job done p = let c = call_by job.kind job.block job.bytes done.outcome done.bytes p.call in record {
    tells = tells_by job.kind job.block job.bytes done.outcome done.bytes p.call;
    calls = λ m. (calls_by done.outcome c m).0;
    faults = λ m. (calls_by done.outcome c m).1;
  }

-- ---- an event

abbrev pub Made : WorldSeen → Event → Reply → WorldSeen → Type 0
Made old e r new = WorldStep (world_of old) (Act e r) (world_of new) × (new.device ≡ old.device) × (new.unflushed ≡ old.unflushed)

-- what holds of a service's world also while a request is in flight
pub record IsSound (w : WorldSeen) : Type 0 where
  pub reached : is_some w.device.contents ≡ true → IsReached (world_of w)
  pub core : Sound w.core
  pub orderly : IsOrderly w.core
  pub counted : w.device.calls ≤ max_calls
  pub bounded : AreBounded w.core

pub service_sound : (name : ℕ) (w : WorldSeen) (table : TableId) (errors : RecorderSeen) → IsServing name w table errors → IsSound w
service_sound name w table errors i =
    record { reached = i.reached; core = i.sound; orderly = i.orderly; counted = i.counted; bounded = i.bounded }

-- the service goes on so
pub record Goes (s t : SoloSeen) : Type 0 where
  pub serves : Serves s t
  pub sound : IsSound t.world
  pub lists : length t.errors.all ≡ length s.errors.all

same_faults : (s : SoloSeen) (w : WorldSeen) → w.device ≡ s.world.device → s.world.device.faults ≤ w.device.faults
same_faults s w d = subst (λ x. s.world.device.faults ≤ x.faults) (sym d) (omega arith)

-- a step that raises the failures by those that are noted
moved_keeps : (s : SoloSeen) (w : WorldSeen) (errors : RecorderSeen) (e : Move) → WorldStep (world_of s.world) e (world_of w) → keeps_handles e ≡ true → w.device ≡ s.world.device → Notes s.errors errors → ((f : ℕ) → count_in errors f + failures_in s.world.core f ≡ count_in s.errors f + failures_in w.core f) → (IsCoded s → IsCoded (record s { world = w; errors = errors })) → ((f : ℕ) → untold_in errors f ≡ untold_since s (record s { world = w; errors = errors }) f) → Keeps s (record s { world = w; errors = errors })
moved_keeps s w errors e m k d n same codes untold =
    let a = stays (world_of s.world) (world_of w) e m in
    let b = handles_stay (world_of s.world) (world_of w) e k m in
    record { name = a.1; sizes = a.0; handles = b.0; count = b.1; board = n.board; opening = n.opening; recorded = n.begins; noted = same; coded = codes; untold = λ f _. untold f; tells = ap (λ x. is_some x.contents) d; faults = same_faults s w d }

moved_sound : (old w : WorldSeen) (e : Move) → WorldStep (world_of old) e (world_of w) → w.device ≡ old.device → IsSound old → IsSound w
moved_sound old w e m d i =
    record {
      reached = λ t. reached_step (world_of old) (world_of w) e
          (i.reached (ap (λ x. is_some x.contents) (sym d) ∙ t)) m;
      core = core_sound (world_of old) (world_of w) e m i.core;
      orderly = orderly_stays (world_of old) (world_of w) e m i.core i.orderly;
      counted =
          subst (λ x. x.calls ≤ max_calls) (sym d) i.counted;
      bounded =
          bounded_stays (world_of old) (world_of w) e m i.bounded;
    }

pub made_keeps : (s : SoloSeen) (w : WorldSeen) (e : Event) (r : Reply) → Made s.world e r w → Sound s.world.core → keeps_handles (Act e r) ≡ true → Keeps s (record s { world = w })
made_keeps s w e r m ok k = moved_keeps s w s.errors (Act e r) m.0 k m.1 (notes s.errors s.errors None r refl) (λ f. ap (λ n. count_in s.errors f + n) (sym (act_failures (world_of s.world) (world_of w) e r ok m.0 f))) (λ same f. same f ∙ sym (act_codes (world_of s.world) (world_of w) e r ok m.0 f)) (λ f. since_same (untold_in s.errors f) _ _ (act_failures (world_of s.world) (world_of w) e r ok m.0 f))

pub made_files : (s : SoloSeen) (w : WorldSeen) (e : Event) (r : Reply) → Made s.world e r w → IsSound s.world → Tells s → files (record s { world = w }) ≡ plain_after (files s) e r
made_files s w e r m i t = files_step (world_of s.world) (world_of w) (Act e r) (i.reached t) m.0

pub made_sound : (old w : WorldSeen) (e : Event) (r : Reply) → Made old e r w → IsSound old → IsSound w
made_sound old w e r m i = moved_sound old w (Act e r) m.0 m.1 i

-- an event that leaves handles and files
abbrev pub is_quiet : Event → Bool
is_quiet event.Create = false
is_quiet (event.Open f) = false
is_quiet (event.Close h) = false
is_quiet (event.Write h o b) = false
is_quiet (event.Append h b) = false
is_quiet (event.Truncate h z) = false
is_quiet _ = true

quiet_handles : (e : Event) (r : Reply) → is_quiet e ≡ true → keeps_handles (Act e r) ≡ true
quiet_handles event.Create r q = absurd cc
quiet_handles (event.Open f) r q = absurd cc
quiet_handles (event.Close h) r q = absurd cc
quiet_handles _ r q = refl

quiet_lengths : (e : Event) (r : Reply) → is_quiet e ≡ true → leaves_lengths (Act e r) ≡ true
quiet_lengths (event.Write h o b) r q = absurd cc
quiet_lengths (event.Append h b) r q = absurd cc
quiet_lengths (event.Truncate h z) r q = absurd cc
quiet_lengths _ r q = refl

quiet_plain : (p : Plain) (e : Event) (r : Reply) → is_quiet e ≡ true → plain_after p e r ≡ p
quiet_plain p event.Create r q = absurd cc
quiet_plain p (event.Open f) r q = absurd cc
quiet_plain p (event.Close h) r q = absurd cc
quiet_plain p (event.Write h o b) r q = absurd cc
quiet_plain p (event.Append h b) r q = absurd cc
quiet_plain p (event.Truncate h z) r q = absurd cc
quiet_plain p _ r q = refl

pub made_goes : (s : SoloSeen) (w : WorldSeen) (e : Event) (r : Reply) → Made s.world e r w → is_quiet e ≡ true → IsSound s.world → Goes s (record s { world = w })
made_goes s w e r m q i = record {
  serves = record {
    keeps = made_keeps s w e r m i.core (quiet_handles e r q);
    lengths = lengths_stay (world_of s.world) (world_of w) (Act e r) (quiet_lengths e r q) m.0;
    files = λ t. made_files s w e r m i t ∙ quiet_plain _ e r q;
  };
  sound = made_sound s.world w e r m i;
  lists = refl;
}

same_job : (r : Reply) → is_job r ≡ false → kept.is_job r ≡ false
same_job (reply.Job t) e = absurd cc
same_job _ e = refl

none_of : (w : WorldSeen) → IsResting w → NoneInFlight (world_of w)
none_of w r = record { requests = r.requests; outcomes = r.outcomes }

pub made_rests : (old w : WorldSeen) (e : Event) (r : Reply) → Made old e r w → is_job r ≡ false → IsResting old → IsResting w
made_rests old w e r m j rest = let x = none_stays (world_of old) (world_of w) e r (same_job r j) (none_of old rest) m.0 in record { requests = x.requests; outcomes = x.outcomes }

-- no more serials were given than device calls were made
abbrev pub FewSerials : WorldSeen → Type 0
FewSerials w = w.core.next ≤ w.device.calls

pub made_serials : (old w : WorldSeen) (e : Event) (r : Reply) → Made old e r w → is_job r ≡ false → FewSerials old → FewSerials w
made_serials old w e r m j i = let a = next_stays (world_of old) (world_of w) (Act e r) (ap not (same_job r j)) m.0 in let b : w.device.calls ≡ old.device.calls = ap (λ d. d.calls) m.1 in omega arith

-- with the board of what was recorded
pub reboarded : (name : ℕ) (w : WorldSeen) (table : TableId) (errors : RecorderSeen) → IsService name w table errors → IsService name w errors.board errors
reboarded name w table errors i = subst (λ t. IsService name w t errors) i.serving.board i

-- what makes a service of a world that it goes on in
pub goes_service : (name : ℕ) (s t : SoloSeen) (table : TableId) → IsServing name s.world table s.errors → Goes s t → IsResting t.world → FewSerials t.world → IsServing name t.world table t.errors
goes_service name s t table i g rest n = record {
  named = g.serves.keeps.name ∙ i.named;
  board = i.board ∙ sym g.serves.keeps.board;
  lists = g.lists ∙ i.lists;
  rests = rest;
  reached = g.sound.reached;
  counted = g.sound.counted;
  sound = g.sound.core;
  orderly = g.sound.orderly;
  bounded = g.sound.bounded;
  few = subst (λ k. k ≤ MAX_FILES) (sym g.serves.keeps.count) i.few;
  page = subst (λ (z : Sizes). MIN_PAGE_SIZE ≤ z.page) (sym g.serves.keeps.sizes) i.page;
  frames = subst (λ (z : Sizes). MIN_FRAMES ≤ z.frames) (sym g.serves.keeps.sizes) i.frames;
  dirty = subst (λ (z : Sizes). MIN_DIRTY_LIMIT ≤ z.dirty_limit) (sym g.serves.keeps.sizes) i.dirty;
  serials = n;
}

-- ---- a device call

if_told : {X : Type 0} {P : Type 0} (o : Option X) → IfSome o (λ _. P) → is_some o ≡ true → P
if_told None h e = absurd cc
if_told (Some x) h e = h

module _ (s : SoloSeen) (w : WorldSeen) (t : ℕ) (c : IsCalled s.world t w) (i : IsSound s.world) where
  same_core : w.core ≡ s.world.core
  same_core = ap (λ h. h.core) c.noted

  counts : Counts s.world.device w.device
  counts = performed s.world.device w.device c.job c.done c.performs

  called_keeps : Keeps s (record s { world = w })
  called_keeps = record { name = ap (λ x. x.name) same_core; sizes = ap (λ x. x.sizes) same_core; handles = ap (λ x. x.handles) same_core; count = ap (λ x. length x.files) same_core; board = refl; opening = refl; recorded = λ g. prefix_self _; noted = λ g. ap (λ x. count_in s.errors g + failures_in x g) (sym same_core); coded = λ same g. same g ∙ ap (λ x. (file_at x g).last_code) (sym same_core); untold = λ g _. since_same (untold_in s.errors g) _ _ (ap (λ x. failures_in x g) same_core); tells = counts.tells; faults = counts.faults i.counted }

  pub called_goes : IfSome s.world.device.contents (λ _. MovesByCall s.world t w) → Goes s (record s { world = w })
  called_goes h = record {
    serves = record { keeps = called_keeps; lengths = λ f. ap (λ x. (file_at x f).size) same_core; files = λ told. let m = if_told s.world.device.contents h told in files_step (world_of s.world) (world_of w) (Call t m.0 m.1) (i.reached told) m.2 };
    sound = record {
      reached = λ told. let before = sym counts.tells ∙ told in let m = if_told s.world.device.contents h before in reached_step (world_of s.world) (world_of w) (Call t m.0 m.1) (i.reached before) m.2;
      core = subst Sound (sym same_core) i.core;
      orderly = subst IsOrderly (sym same_core) i.orderly;
      counted = counts.calls i.counted;
      bounded = subst AreBounded (sym same_core) i.bounded;
    };
    lists = refl;
  }

-- ---- an end

abbrev pub Finished : WorldSeen → ℕ → Reply → WorldSeen → Type 0
Finished old t r new = WorldStep (world_of old) (Finish t r) (world_of new) × (new.device ≡ old.device) × (new.unflushed ≡ old.unflushed)

-- with its failure noted
pub finished_goes : (s : SoloSeen) (w : WorldSeen) (errors : RecorderSeen) (t : ℕ) (r : Reply) → Finished s.world t r w → IsNoted s.errors (flush_of s.world.core t) r errors → length s.errors.all ≡ MAX_FILES → IsSound s.world → Goes s (record s { world = w; errors = errors })
finished_goes s w errors t r m n l i = record {
  serves = record { keeps = moved_keeps s w errors (Finish t r) m.0 refl m.1 (notes s.errors errors (flush_of s.world.core t) r n) (rise_alike (flush_of s.world.core t) r _ _ _ _ (noted_rises s.errors errors (flush_of s.world.core t) r l n) (finish_rises (world_of s.world) (world_of w) t r i.core m.0)) (change_alike (flush_of s.world.core t) r _ _ _ _ (noted_codes s.errors errors (flush_of s.world.core t) r l n) (finish_codes (world_of s.world) (world_of w) t r i.core m.0)) (noted_untold s.errors errors (flush_of s.world.core t) r l n _ _ (finish_rises (world_of s.world) (world_of w) t r i.core m.0)); lengths = lengths_stay (world_of s.world) (world_of w) (Finish t r) refl m.0; files = λ told. files_step (world_of s.world) (world_of w) (Finish t r) (i.reached told) m.0 };
  sound = moved_sound s.world w (Finish t r) m.0 m.1 i;
  lists = (notes s.errors errors (flush_of s.world.core t) r n).lists;
}

pub goes_trans : (s t u : SoloSeen) → Goes s t → Goes t u → Goes s u
goes_trans s t u g h = record { serves = serves_trans s t u g.serves h.serves; sound = h.sound; lists = h.lists ∙ g.lists }

-- ---- the call and the end of the one request in flight

one_of : (w : WorldSeen) (t : ℕ) → IsAlone w t → OneInFlight (world_of w) t
one_of w t a = record { request = a.request; requests = a.requests; others = λ u _. ap (λ o. finmap.get o u) a.outcomes ∙ get-empty nat_cmp u }

call_made : (old new : WorldSeen) (t : ℕ) (q : Option Request) (o : Option core.Outcome) → CallReply old t q o reply.Done new → IsCalled old t new × IfSome old.device.contents (λ _. MovesByCall old t new)
call_made old new t (Some q) None h = (h.1, h.2)
call_made old new t (Some q) (Some o) h = absurd (cc (h.0))
call_made old new t None o h = absurd (cc (h.0))

call_answer : (old new : WorldSeen) (t : ℕ) (q : Option Request) (o : Option core.Outcome) (x : Request) (r : Reply) → q ≡ Some x → o ≡ None → CallReply old t q o r new → r ≡ reply.Done
call_answer old new t (Some q) None x r a b h = h.0
call_answer old new t (Some q) (Some o) x r a b h = absurd cc
call_answer old new t None o x r a b h = absurd cc

pub outcome_noted : (old new : WorldSeen) (t : ℕ) (c : IsCalled old t new) → finmap.get new.outcomes t ≡ Some (outcome_of c.job.kind c.done.outcome c.done.bytes)
outcome_noted old new t c = ap (λ h. finmap.get h.outcomes t) c.noted ∙ get-insert1 old.outcomes t _ t ∙ put1_here _ t _

-- once its call is made the request can be ended
end_made : (old mid new : WorldSeen) (t : Serial) (r : Reply) → IsCalled old t.0 mid → Steps mid (step.End t) r new → Finished mid t.0 r new × (r ≢ reply.Refused Stranger)
end_made old mid new t r c h = subst (λ o. EndReply mid (step.End t) o r new) (outcome_noted old mid t.0 c) h

one_called : (old new : WorldSeen) (t : ℕ) → IsCalled old t new → IsAlone old t → OneInFlight (world_of new) t
one_called old new t c a = (one_noted (world_of old) (world_of new) t _ (one_of old t a) (ap (λ x. x.core) c.noted) (ap (λ x. x.outcomes) c.noted)).0

module _ (old mid new : WorldSeen) (t : Serial) (a r : Reply) (alone : IsAlone old t.0) (h : CallReply old t.0 (finmap.get old.core.requests t.0) (finmap.get old.outcomes t.0) a mid) (e : Steps mid (step.End t) r new) where
  answer : a ≡ reply.Done
  answer = call_answer old mid t.0 _ _ _ a (one_is (world_of old) t.0 (one_of old t.0 alone)) (ap (λ o. finmap.get o t.0) alone.outcomes ∙ get-empty nat_cmp t.0) h

  call_done : CallReply old t.0 (finmap.get old.core.requests t.0) (finmap.get old.outcomes t.0) reply.Done mid
  call_done = subst (λ x. CallReply old t.0 (finmap.get old.core.requests t.0) (finmap.get old.outcomes t.0) x mid) answer h

  pub alone_rests : IsResting new
  alone_rests =
      let c = (call_made old mid t.0 _ _ call_done).0 in
      let over = end_made old mid new t r c e in
      let x = one_ends (world_of mid) (world_of new) t.0 r over.1 (one_called old mid t.0 c alone) over.0.0 in
      record { requests = x.requests; outcomes = x.outcomes }

-- ---- a request in one, or the step that began none

-- the step makes this event, which may begin a request
pub record Begins (st : Step) (e : Event) : Type 0 where
  pub quiet : is_quiet e ≡ true
  pub made : (old new : WorldSeen) (r : Reply) → IsMade old st r new → Made old e r new
  pub steps : (old new : WorldSeen) (r : Reply) → IsMade old st r new → Steps old st r new

pub fill_begins : (h : HandleId) (p : PageIndex) → Begins (step.FillBegin h p) (event.FillBegin h p)
fill_begins h p = record { quiet = refl; made = λ old new r x. x; steps = λ old new r x. inl x }

pub flush_begins : (f : FileId) → Begins (step.FlushBegin f) (event.FlushBegin f)
flush_begins f = record { quiet = refl; made = λ old new r x. x; steps = λ old new r x. inl x }

pub sync_begins : (n : SyncId) → Begins (step.SyncStep n) (event.SyncStep n)
sync_begins n = record { quiet = refl; made = λ old new r x. x; steps = λ old new r x. inl x }

-- the file that a request writes, if it is a write
pub fill_writes : (s : State) (t : ℕ) (x : Request) → finmap.get s.requests t ≡ Some x → x.kind ≡ Fill → flush_of s t ≡ None
fill_writes s t x is kind = ap flushed_file is ∙ ap (λ k. if is_flush k then Some x.file else None) kind

pub flush_writes : (s : State) (t : ℕ) (x : Request) (f : ℕ) → finmap.get s.requests t ≡ Some x → x.kind ≡ Flush → x.file ≡ f
    → flush_of s t ≡ Some f
flush_writes s t x f is kind file = ap flushed_file is ∙ ap (λ k. if is_flush k then Some x.file else None) kind ∙ ap Some file

-- a request that was begun, called and ended, with its failure noted
pub record Carried (old : WorldSeen) (errors : RecorderSeen) (e : Event) (r : Reply) (new : WorldSeen) (after : RecorderSeen) : Type 0 where
  pub serial : Serial
  pub begun : WorldSeen
  pub called : WorldSeen
  pub begin : Made old e (reply.Job serial) begun
  pub call : IsCalled begun serial.0 called
  pub moves : IfSome begun.device.contents (λ _. MovesByCall begun serial.0 called)
  pub end : Finished called serial.0 r new
  pub ended : r ≢ reply.Refused Stranger
  pub noted : IsNoted errors (flush_of begun.core serial.0) r after

-- no request, or a whole one
pub data Once (old : WorldSeen) (errors : RecorderSeen) (e : Event) (r : Reply) (new : WorldSeen) (after : RecorderSeen) : Type 0 where
  Quiet : is_job r ≡ false → Made old e r new → after ≡ errors → Once old errors e r new after
  Whole : Carried old errors e r new after → Once old errors e r new after

pub once : (old new : WorldSeen) (errors after : RecorderSeen) (st : Step) (e : Event) (r : Reply) → Begins st e → AtOnce old errors st r new after → Once old errors e r new after
once old new errors after st e r b (inl a) = Quiet a.0 (b.made old new r a.1) a.2
once old new errors after st e r b (inr (t, mid, asked, (called, answered, (ended, end, same)), noted)) =
    let c = call_made mid called t.0 _ _ answered in Whole (record {
      serial = t;
      begun = mid;
      called = called;
      begin = b.made old mid (reply.Job t) asked;
      call = c.0;
      moves = c.1;
      end = subst (Finished called t.0 r) (sym same) (end_made mid called ended t r c.0 end).0;
      ended = (end_made mid called ended t r c.0 end).1;
      noted = noted;
    })

-- the service with another world and with what was noted
abbrev pub with_world : SoloSeen → WorldSeen → RecorderSeen → SoloSeen
with_world s w errors = record s { world = w; errors = errors }

carried_goes : (s : SoloSeen) (w : WorldSeen) (errors : RecorderSeen) (st : Step) (e : Event) (r : Reply) → Begins st e → Carried s.world s.errors e r w errors → length s.errors.all ≡ MAX_FILES → IsSound s.world → Goes s (with_world s w errors)
carried_goes s w errors st e r b c l i =
    let g = made_goes s c.begun e (reply.Job c.serial) c.begin b.quiet i in
    let h = called_goes (record s { world = c.begun }) c.called c.serial.0 c.call g.sound c.moves in
    let n = subst (λ x. IsNoted s.errors (flush_of x c.serial.0) r errors) (sym (ap (λ x. x.core) c.call.noted)) c.noted in
    let k = finished_goes (record s { world = c.called }) w errors c.serial.0 r c.end n l h.sound in
    goes_trans s (record s { world = c.called }) (with_world s w errors) (goes_trans s (record s { world = c.begun }) (record s { world = c.called }) g h) k

pub goes_refl : (s : SoloSeen) → IsSound s.world → Goes s s
goes_refl s i = record { serves = serves_refl s; sound = i; lists = refl }

once_goes : (s : SoloSeen) (w : WorldSeen) (errors : RecorderSeen) (st : Step) (e : Event) (r : Reply) → Begins st e → Once s.world s.errors e r w errors → length s.errors.all ≡ MAX_FILES → IsSound s.world → Goes s (with_world s w errors)
once_goes s w errors st e r b (Quiet j m none) l i = subst (λ x. Goes s (with_world s w x)) (sym none) (made_goes s w e r m b.quiet i)
once_goes s w errors st e r b (Whole c) l i = carried_goes s w errors st e r b c l i

at_once_goes : (name : ℕ) (s : SoloSeen) (w : WorldSeen) (errors : RecorderSeen) (table : TableId) (st : Step) (e : Event) (r : Reply) → Begins st e → AtOnce s.world s.errors st r w errors → IsServing name s.world table s.errors → Goes s (with_world s w errors)
at_once_goes name s w errors table st e r b a i = once_goes s w errors st e r b (once s.world w s.errors errors st e r b a) i.lists (service_sound name s.world table s.errors i)

pub at_once_serves : (name : ℕ) (s : SoloSeen) (w : WorldSeen) (errors : RecorderSeen) (table : TableId) (st : Step) (e : Event) (r : Reply) → Begins st e → AtOnce s.world s.errors st r w errors → IsServing name s.world table s.errors → Serves s (with_world s w errors)
at_once_serves name s w errors table st e r b a i = (at_once_goes name s w errors table st e r b a i).serves

-- the steps that it is
at_once_moves : (k : Step → Bool) (old new : WorldSeen) (errors after : RecorderSeen) (st : Step) (r : Reply)
    → ((v : WorldSeen) (q : Reply) → IsMade old st q v → Steps old st q v)
    → k st ≡ true → ((t : Serial) → k (step.Call t) ≡ true) → ((t : Serial) → k (step.End t) ≡ true)
    → AtOnce old errors st r new after → Moves k old new
at_once_moves k old new errors after st r steps is calls ends (inl a) = one_move k old new st r is (steps new r a.1)
at_once_moves k old new errors after st r steps is calls ends (inr (t, mid, begun, plays, noted)) = record {
  steps = st ∷ step.Call t ∷ step.End t ∷ [];
  replies = reply.Job t ∷ reply.Done ∷ r ∷ [];
  plays = (mid, steps mid (reply.Job t) begun, plays);
  each = three k st (step.Call t) (step.End t) is (calls t) (ends t);
}

pub at_once_helps : (q : ℕ) (page : Option PageIndex) (name : ℕ) (s : SoloSeen) (w : WorldSeen) (errors : RecorderSeen) (table : TableId) (st : Step)
    (e : Event) (r : Reply) → Begins st e → is_help q page st ≡ true → AtOnce s.world s.errors st r w errors
    → IsServing name s.world table s.errors → Helps q page s (with_world s w errors)
at_once_helps q page name s w errors table st e r b k a i = record {
  serves = at_once_serves name s w errors table st e r b a i;
  moves = at_once_moves (is_help q page) s.world w s.errors errors st r (λ v q m. b.steps s.world v q m) k (λ t. refl) (λ t. refl) a;
}

pub begun_alone : (old new : WorldSeen) (e : Event) (t : Serial) → IsResting old → Made old e (reply.Job t) new → IsAlone new t.0
begun_alone old new e t rest m =
    let x = begins (world_of old) (world_of new) e t m.0 in
    record { request = x.request; requests = x.requests ∙ ap (λ y. finmap.insert y t.0 x.request) rest.requests; outcomes = x.outcomes ∙ rest.outcomes }

pub quiet_rests : (old new : WorldSeen) (st : Step) (e : Event) (r : Reply) → Begins st e → is_job r ≡ false → IsMade old st r new → IsResting old → IsResting new
quiet_rests old new st e r b j h rest = made_rests old new e r (b.made old new r h) j rest

pub no_job : (r : Reply) → ((t : Serial) → r ≡ reply.Job t → ⊥) → is_job r ≡ false
no_job (reply.Job t) h = absurd (h t refl)
no_job _ h = refl

once_rests : (old new : WorldSeen) (errors after : RecorderSeen) (st : Step) (e : Event) (r : Reply) → Begins st e → Once old errors e r new after → IsResting old → IsResting new
once_rests old new errors after st e r b (Quiet j m none) rest = made_rests old new e r m j rest
once_rests old new errors after st e r b (Whole c) rest =
    let x = one_ends (world_of c.called) (world_of new) c.serial.0 r c.ended (one_called c.begun c.called c.serial.0 c.call (begun_alone old c.begun e c.serial rest c.begin)) c.end.0 in
    record { requests = x.requests; outcomes = x.outcomes }

-- a request that was carried out at once leaves none in flight
pub carried_rests : (old mid new : WorldSeen) (st : Step) (e : Event) (t : Serial) (r : Reply) → Begins st e
    → IsMade old st (reply.Job t) mid → Plays mid (step.Call t ∷ step.End t ∷ []) (reply.Done ∷ r ∷ []) new → IsResting old
    → IsResting new
carried_rests old mid new st e t r b begun (called, answered, (ended, end, same)) rest = subst IsResting (sym same)
    (alone_rests mid called ended t reply.Done r (begun_alone old mid e t rest (b.made old mid (reply.Job t) begun)) answered end)

serials_on : (a b c d m : ℕ) → a ≤ c → a < m → b ≡ a + 1 → (c < m → d ≡ c + 1) → c ≤ m → (c ≡ m → d ≡ c) → b ≤ d
serials_on a b c d m h less e f most same = elim (at_most c m most) [ inl x ↦ (let y = f x in omega arith) | inr x ↦ (let y = same x in omega arith) ]

carried_serials : (old new : WorldSeen) (errors after : RecorderSeen) (e : Event) (r : Reply) → Carried old errors e r new after → old.device.calls ≤ max_calls → FewSerials old → FewSerials new
carried_serials old new errors after e r c most i =
    let n = next_rises (world_of old) (world_of c.begun) e c.serial c.begin.0 in
    let k = call_by c.begun.device c.called.device _ _ _ _ _ c.call.performs.call in
    let same : c.called.core.next ≡ c.begun.core.next = ap (λ x. x.core.next) c.call.noted in
    let last = next_stays (world_of c.called) (world_of new) (Finish c.serial.0 r) refl c.end.0 in
    let device : c.begun.device.calls ≡ old.device.calls = ap (λ d. d.calls) c.begin.1 in
    let over : new.device.calls ≡ c.called.device.calls = ap (λ d. d.calls) c.end.1 in
    serials_on old.core.next new.core.next old.device.calls new.device.calls max_calls i n.0 (last ∙ same ∙ n.1)
    (λ less. over ∙ k.calls (subst (λ x. x < max_calls) (sym device) less) ∙ ap (λ x. x + 1) device)
    most
    (λ full. over ∙ ap (λ d. d.calls) (k.exhausted (device ∙ full)).1 ∙ device)

once_serials : (old new : WorldSeen) (errors after : RecorderSeen) (st : Step) (e : Event) (r : Reply) → Begins st e → Once old errors e r new after → old.device.calls ≤ max_calls → FewSerials old → FewSerials new
once_serials old new errors after st e r b (Quiet j m none) most i = made_serials old new e r m j i
once_serials old new errors after st e r b (Whole c) most i = carried_serials old new errors after e r c most i

pub at_once_serving : (name : ℕ) (s : SoloSeen) (w : WorldSeen) (errors : RecorderSeen) (table : TableId) (st : Step) (e : Event) (r : Reply) → Begins st e → AtOnce s.world s.errors st r w errors → IsServing name s.world table s.errors → IsServing name w table errors
at_once_serving name s w errors table st e r b a i =
    let o = once s.world w s.errors errors st e r b a in
    goes_service name s (with_world s w errors) table i (at_once_goes name s w errors table st e r b a i) (once_rests s.world w s.errors errors st e r b o i.rests)
    (once_serials s.world w s.errors errors st e r b o i.counted i.serials)

-- one that is no sync's begins none
once_syncs : (old new : WorldSeen) (errors after : RecorderSeen) (e : Event) (r : Reply) → begins_sync e ≡ false → Once old errors e r new after → old.core.syncs ≡ finmap.empty → new.core.syncs ≡ finmap.empty
once_syncs old new errors after e r q (Quiet j m none) i = none_empty old.core new.core (act_none (world_of old) (world_of new) e r q m.0) i
once_syncs old new errors after e r q (Whole c) i =
    let a = none_empty old.core c.begun.core (act_none (world_of old) (world_of c.begun) e (reply.Job c.serial) q c.begin.0) i in
    let b : c.called.core.syncs ≡ finmap.empty = ap (λ (x : WorldSeen). x.core.syncs) c.call.noted ∙ a in
    none_empty c.called.core new.core (finish_none (world_of c.called) (world_of new) c.serial.0 r c.end.0) b

pub at_once_service : (name : ℕ) (s : SoloSeen) (w : WorldSeen) (errors : RecorderSeen) (table : TableId) (st : Step) (e : Event) (r : Reply) → Begins st e → begins_sync e ≡ false → AtOnce s.world s.errors st r w errors → IsService name s.world table s.errors → IsService name w table errors
at_once_service name s w errors table st e r b q a i = record {
  serving = at_once_serving name s w errors table st e r b a i.serving;
  syncs = once_syncs s.world w s.errors errors e r q (once s.world w s.errors errors st e r b a) i.syncs;
}
