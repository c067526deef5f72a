-- Every step of the machine, one case each, with all that its tests and its reply give. A claim about event, reply and
-- new state that holds in each case holds of every step. Each walk over the events uses this one.
use Rattle.pc_types.specs.Kinds.{is_flush}
use Rattle.std.proofs.Common.{◌≡◌, ℕ, ◌+◌, ◌<◌, ◌≤◌, true, false, cond, not, eqb, List, [], ◌∷◌, ◌++◌, length, refl, ap}
use Rattle.std.proofs.Common.{sym, subst, ◌∙◌, arith, inl, inr}
use Rattle.std.specs.Prelude.{◌⊎◌, Option, Some, None, is_some, unwrap_or, nat_lt, nat_le}
use Rattle.std.specs.List.{list_any}
use Rattle.std.specs.FinMap as map
use Rattle.std.proofs.lemmas.Bool.Decides.{nat_tests}
use Rattle.pc_types.specs.Tags.{no_tags}
use Rattle.pc_types.specs.Files.{cut}
use Rattle.pc_types.specs.declared.ids.BlockNo.{BlockNo}
use Rattle.pc_types.specs.declared.ids.FileId.{FileId}
use Rattle.pc_types.specs.declared.ids.HandleId.{HandleId}
use Rattle.pc_types.specs.declared.ids.PageIndex.{PageIndex}
use Rattle.pc_types.specs.declared.ids.Serial.{Serial}
use Rattle.pc_types.specs.declared.ids.SyncId.{SyncId}
use Rattle.pc_types.specs.declared.limits.TheConstants.{MAX_FILES, MAX_HANDLES}
use Rattle.pc_types.specs.declared.refusal.Refusal.TheVariants.{Memory}
use Rattle.pc_types.specs.declared.kind.Kind.{Kind}
use Rattle.pc_types.specs.declared.kind.Kind.TheVariants.{Fill, Flush}
use Rattle.machine.specs.declared.event.End.{End}
use Rattle.machine.specs.declared.event.Outcome.{Outcome}
use Rattle.machine.specs.declared.event.Outcome.TheVariants as outcome
use Rattle.machine.specs.declared.event.Event.{Event}
use Rattle.machine.specs.declared.event.Event.TheVariants as event
use Rattle.machine.specs.declared.event.Reply.{Reply}
use Rattle.machine.specs.declared.event.Reply.TheVariants as reply
use Rattle.machine.specs.State.{State, Page, Request, Sync, no_file, file_at, handle_file, is_open, page_at, is_written}
use Rattle.machine.specs.State.{is_idle, first_awaited, bound_of}
use Rattle.machine.specs.Changes.{put_file, put_page, put_pages, put_sync, drop_sync, requested, started, ended}
use Rattle.machine.specs.Changes.{filled, flushed, flush_failed, request_ended, written, shrunk, truncated, new_sync}
use Rattle.machine.specs.Changes.{sync_begun, sync_pick, sync_stepped, changed}
use Rattle.machine.specs.Tests.{tests, is_full, start_tests, sync_tests}
use Rattle.machine.specs.Step.{IsLowest, Step, AnswersOr, MayReply, EndReply, SyncReply, SyncStepReply}
use Rattle.machine.proofs.steps.Choices.{and_false, some_of, if_none, if_some, first_passed, below, mapped_some}
use Rattle.machine.proofs.steps.Answered.{is_quiet, IsWrite, answers}
use Rattle.machine.proofs.steps.Passed.{MayWrite, MayTruncate, MayFill, MayEnd, MayFlush, MayBegin, MayStart, may_write}
use Rattle.machine.proofs.steps.Passed.{may_truncate, may_fill, may_end, may_flush, may_begin, may_start}

-- how a sync with nothing to await ends
abbrev pub IsVerdict : State → Sync → Reply → Type 0
IsVerdict s y r = SyncReply s y None None r

pub record Cases (s : State) (Q : Event → Reply → State → Type 0) : Type 0 where
  -- the state stays: a test answered, memory is wanting, or the event changes nothing
  pub same : (e : Event) (r : Reply) → Step s e r s → is_quiet r ≡ true → Q e r s
  pub writes_none : (e : Event) (h : HandleId) (o : ℕ) → IsWrite s e h o [] → Step s e (reply.Wrote 0 o) s
      → Q e (reply.Wrote 0 o) s
  -- files and handles
  pub creates : (f : FileId) → length s.files < MAX_FILES → f.0 ≡ length s.files
      → Q event.Create (reply.File f) (record s { files = s.files ++ no_file ∷ [] })
  pub opens : (f : FileId) (h : HandleId) → f.0 < length s.files → map.len s.handles < MAX_HANDLES
      → IsLowest (is_open s) h.0
      → Q (event.Open f) (reply.Handle h) (record s { handles = map.insert s.handles h.0 f.0 })
  pub closes : (h : HandleId) → is_open s h.0 ≡ true → list_any (λ (y : Sync). eqb y.handle h.0) (map.values s.syncs)
      ≡ false
      → Q (event.Close h) reply.Closed (record s { handles = map.remove s.handles h.0 })
  pub writes : (e : Event) (h : HandleId) (o : ℕ) (b : List ℕ) → IsWrite s e h o b → MayWrite s h.0 o (length b)
      → Q e (reply.Wrote (length b) (o + length b)) (written s (handle_file s h.0) o b)
  pub shrinks : (h : HandleId) (z : ℕ) → MayTruncate s h.0 z → z < (file_at s (handle_file s h.0)).size
      → Q (event.Truncate h z) reply.Done (shrunk s (handle_file s h.0) z)
  pub grows : (h : HandleId) (z : ℕ) → MayTruncate s h.0 z → (file_at s (handle_file s h.0)).size ≤ z
      → Q (event.Truncate h z) reply.Done
      (put_file s (handle_file s h.0) (record (file_at s (handle_file s h.0)) { size = z }))
  pub makes_zeros : (h : HandleId) (p : PageIndex) → MayFill s h.0 p.0 → is_written s (handle_file s h.0) p.0 ≡ false
      → Q (event.FillBegin h p) reply.Filled
      (put_page s (handle_file s h.0) p.0 (record { bytes = cut [] s.sizes.page; tags = no_tags }))
  pub evicts : (f : FileId) (p : PageIndex) (page : Page) → page_at s f.0 p.0 ≡ Some page → is_idle page ≡ true
      → Q event.Evict (reply.Evicted f p) (put_pages s f.0 (map.remove (file_at s f.0).pages p.0))
  -- requests
  pub fills : (h : HandleId) (p : PageIndex) (t : Serial) → MayFill s h.0 p.0
      → is_written s (handle_file s h.0) p.0 ≡ true → is_full s ≡ false → t.0 ≡ s.next
      → Q (event.FillBegin h p) (reply.Job t) (requested s Fill (handle_file s h.0) p.0)
  pub flushes : (f : FileId) (p : ℕ) (page : Page) (t : Serial) → MayFlush s f.0 p page → t.0 ≡ s.next
      → Q (event.FlushBegin f) (reply.Job t) (started s f.0 p)
  pub drops : (kind : Kind) (end : End) (x : Request) → MayEnd s kind end x → x.dropped ≡ true
      → Q (event.End kind end) reply.Dropped (ended s end.serial.0)
  pub fill_fails : (end : End) (x : Request) (c : ℕ) → MayEnd s Fill end x → x.dropped ≡ false
      → end.outcome ≡ outcome.Fault c
      → Q (event.End Fill end) (reply.Failed c) (ended s end.serial.0)
  pub fill_ends : (end : End) (x : Request) (b : List ℕ) → MayEnd s Fill end x → x.dropped ≡ false
      → end.outcome ≡ outcome.Read b
      → Q (event.End Fill end) reply.Filled (filled (ended s end.serial.0) x b)
  pub flush_fails : (end : End) (x : Request) (c : ℕ) → MayEnd s Flush end x → x.dropped ≡ false
      → end.outcome ≡ outcome.Fault c
      → Q (event.End Flush end) (reply.Failed c) (flush_failed (ended s end.serial.0) x c)
  pub flush_ends : (end : End) (x : Request) → MayEnd s Flush end x → x.dropped ≡ false → end.outcome ≡ outcome.Written
      → Q (event.End Flush end) reply.Written (flushed (ended s end.serial.0) x)
  -- syncs
  pub begins : (h : HandleId) (first last : PageIndex) (m : SyncId) → MayBegin s h.0 first.0 last.0
      → IsLowest (λ k. is_some (map.get s.syncs k)) m.0
      → Q (event.SyncBegin h first last) (reply.Sync m)
      (sync_begun s (handle_file s h.0) m.0 (new_sync s h.0 first.0 last.0))
  pub starts : (m : SyncId) (y : Sync) (p : ℕ) (page : Page) (t : Serial) → map.get s.syncs m.0 ≡ Some y
      → MayStart s y p page → t.0 ≡ s.next
      → Q (event.SyncStep m) (reply.Job t)
      (put_sync (started s (handle_file s y.handle) p) m.0 (record y { started = Some p }))
  pub waits : (m : SyncId) (y : Sync) (e : ℕ × Request) (p : PageIndex) → map.get s.syncs m.0 ≡ Some y
      → sync_pick s y ≡ None → first_awaited s y ≡ Some e → p.0 ≡ e.1.page
      → Q (event.SyncStep m) (reply.Wait p) (put_sync s m.0 (record y { bound = Some (bound_of s y) }))
  pub over : (m : SyncId) (y : Sync) (r : Reply) → map.get s.syncs m.0 ≡ Some y → sync_pick s y ≡ None
      → first_awaited s y ≡ None → IsVerdict s y r
      → Q (event.SyncStep m) r (drop_sync s m.0)
  pub sync_drops : (m : SyncId) (y : Sync) → map.get s.syncs m.0 ≡ Some y
      → Q (event.SyncDrop m) reply.Dropped (drop_sync s m.0)

-- either a test answers, or none holds and the event happens
pub answered : (o : Option Reply) (s : State) (e : Event) (r : Reply) (new : State) → AnswersOr o s e r new
    → ((o ≡ Some r) × (new ≡ s)) ⊎ ((o ≡ None) × MayReply s e r × (new ≡ changed s e r))
answered None s e r new h = inr (refl, h.0, h.1)
answered (Some x) s e r new h = inl (ap Some (sym h.0), h.1)

module _ (s : State) (Q : Event → Reply → State → Type 0) (c : Cases s Q) where
  stays : (e : Event) (r : Reply) → tests s e ≡ None → MayReply s e r → changed s e r ≡ s → is_quiet r ≡ true → Q e r s
  stays e r none may is quiet = c.same e r (subst (λ o. AnswersOr o s e r s) (sym none) (may, sym is)) quiet

  -- a test answers
  tested : (e : Event) (r : Reply) → Step s e r s → tests s e ≡ Some r → Q e r s
  tested e r step t = elim (answers s e r t) [
    | inl quiet ↦ c.same e r step quiet
    | inr a ↦ subst (λ x. Q e x s) (sym a.3) (c.writes_none e a.0 a.1 a.2 (subst (λ x. Step s e x s) a.3 step))
  ]

  truncates : (h : HandleId) (z : ℕ) → MayTruncate s h.0 z
      → Q (event.Truncate h z) reply.Done (truncated s (handle_file s h.0) z)
  truncates h z may =
      elim (nat_lt z (file_at s (handle_file s h.0)).size) as (λ k. nat_lt z (file_at s (handle_file s h.0)).size ≡ k
      → Q (event.Truncate h z) reply.Done
      (cond k (shrunk s (handle_file s h.0) z)
      (put_file s (handle_file s h.0) (record (file_at s (handle_file s h.0)) { size = z })))) [
        | true ↦ λ k. c.shrinks h z may (grind (arith, nat_tests))
        | false ↦ λ k. c.grows h z may (grind (arith, nat_tests))
      ] refl

  flush_begins : (f : FileId) (t : Serial) → tests s (event.FlushBegin f) ≡ None → t.0 ≡ s.next
      → Q (event.FlushBegin f) (reply.Job t) (changed s (event.FlushBegin f) (reply.Job t))
  flush_begins f t none is = let a = may_flush s f none in
      subst (λ o. Q (event.FlushBegin f) (reply.Job t) (started s f.0 (unwrap_or o 0))) (sym a.2.pick)
      (c.flushes f a.0 a.1 t a.2 is)

  -- the ends of request x
  ends : (kind : Kind) (cache : ℕ) (of : Kind) (t : Serial) (b : BlockNo) (o : Outcome) (x : Request) (r : Reply)
      → let end : End = record { cache = cache; kind = of; serial = t; block = b; outcome = o } in MayEnd s kind end x
      → EndReply (Some x) o r → Q (event.End kind end) r (request_ended s t.0 (Some x) o r)
  ends kind cache of t b o x reply.Dropped may h =
      c.drops kind (record { cache = cache; kind = of; serial = t; block = b; outcome = o }) x may h
  ends Fill cache of t b (outcome.Fault d) x (reply.Failed k) may h = failed x.kind may.kind_is
    where
      failed : (kind : Kind) → kind ≡ Fill
          → Q (event.End Fill (record { cache = cache; kind = of; serial = t; block = b; outcome = outcome.Fault d }))
          (reply.Failed k) (cond (is_flush kind) (flush_failed (ended s t.0) x d)
          (ended s t.0))
      failed Fill e = c.fill_fails (record { cache = cache; kind = of; serial = t; block = b; outcome = outcome.Fault d }) x k may
          h.0 (ap outcome.Fault (sym h.1))
      failed Flush e = absurd cc
  ends Flush cache of t b (outcome.Fault d) x (reply.Failed k) may h = failed x.kind may.kind_is
    where
      failed : (kind : Kind) → kind ≡ Flush
          → Q (event.End Flush (record { cache = cache; kind = of; serial = t; block = b; outcome = outcome.Fault d }))
          (reply.Failed k) (cond (is_flush kind) (flush_failed (ended s t.0) x d)
          (ended s t.0))
      failed Fill e = absurd cc
      failed Flush e =
          subst (λ k. Q (event.End Flush (record { cache = cache; kind = of; serial = t; block = b; outcome = outcome.Fault d }))
          (reply.Failed k) (flush_failed (ended s t.0) x d)) (sym h.1)
          (c.flush_fails (record { cache = cache; kind = of; serial = t; block = b; outcome = outcome.Fault d }) x d may h.0 refl)
  ends Fill cache of t b (outcome.Read bytes) x reply.Filled may h =
      c.fill_ends (record { cache = cache; kind = of; serial = t; block = b; outcome = outcome.Read bytes }) x bytes may h refl
  ends Flush cache of t b (outcome.Read bytes) x reply.Filled may h = absurd (let e = may.fitting in cc)
  ends Fill cache of t b outcome.Written x reply.Written may h = absurd (let e = may.fitting in cc)
  ends Flush cache of t b outcome.Written x reply.Written may h =
      c.flush_ends (record { cache = cache; kind = of; serial = t; block = b; outcome = outcome.Written }) x may h refl
  ends kind cache of t b o x _ may h = absurd h

  ends_of : (kind : Kind) (end : End) (r : Reply) → tests s (event.End kind end) ≡ None
      → EndReply (map.get s.requests end.serial.0) end.outcome r
      → Q (event.End kind end) r (request_ended s end.serial.0 (map.get s.requests end.serial.0) end.outcome r)
  ends_of kind end r none h =
      let a = may_end s kind end none in
      let is = a.1.is in
      subst (λ o. Q (event.End kind end) r (request_ended s end.serial.0 o end.outcome r)) (sym is)
      (ends kind end.cache end.kind end.serial end.block end.outcome a.0 r a.1 (subst (λ o. EndReply o end.outcome r) is h))

  sync_steps : (m : SyncId) (y : Sync) (pick : Option ℕ) (e : Option (ℕ × Request)) (r : Reply)
      → map.get s.syncs m.0 ≡ Some y → sync_pick s y ≡ pick → first_awaited s y ≡ e
      → start_tests s (handle_file s y.handle) pick ≡ None → SyncReply s y pick e r
      → Q (event.SyncStep m) r (sync_stepped s m.0 (Some y) r)
  sync_steps m y (Some p) e (reply.Job t) is k l none h =
      let a = may_start s y p k none in
      subst (λ o. Q (event.SyncStep m) (reply.Job t)
      (put_sync (started s (handle_file s y.handle) (unwrap_or o 0)) m.0 (record y { started = o }))) (sym k)
      (c.starts m y p a.0 t is a.1 h)
  sync_steps m y (Some p) e _ is k l none h = absurd h
  sync_steps m y None (Some e) (reply.Wait p) is k l none h = c.waits m y e p is k l h
  sync_steps m y None (Some e) _ is k l none h = absurd h
  sync_steps m y None None reply.Clean is k l none h = c.over m y reply.Clean is k l h
  sync_steps m y None None (reply.Failed d) is k l none h = c.over m y (reply.Failed d) is k l h
  sync_steps m y None None _ is k l none h = absurd h

  sync_steps_of : (m : SyncId) (r : Reply) (o : Option Sync) → map.get s.syncs m.0 ≡ o → sync_tests s o ≡ None
      → SyncStepReply s o r → Q (event.SyncStep m) r (sync_stepped s m.0 o r)
  sync_steps_of m r None is none h = absurd h
  sync_steps_of m r (Some y) is none h = sync_steps m y (sync_pick s y) (first_awaited s y) r is refl refl none h

  happens : (e : Event) (r : Reply) → tests s e ≡ None → MayReply s e r → Q e r (changed s e r)
  happens event.Create (reply.File f) t h =
      c.creates f (below _ MAX_FILES (if_none (nat_le MAX_FILES (length s.files)) _ None t).0) h
  happens event.Create (reply.Refused Memory) t h = stays _ _ t h refl refl
  happens event.Create _ t h = absurd h
  happens (event.Open f) (reply.Handle k) t h = let a = if_none (nat_le (length s.files) f.0) _ _ t in
      c.opens f k (below f.0 _ a.0) (below _ MAX_HANDLES
      (if_none (nat_le MAX_HANDLES (map.len s.handles)) _ None a.1).0) h
  happens (event.Open f) (reply.Refused Memory) t h = stays (event.Open f) _ t h refl refl
  happens (event.Open f) _ t h = absurd h
  happens (event.Close k) reply.Closed t h =
      c.closes k (first_passed (is_open s k.0) _ _ t)
      (if_none (list_any (λ (y : Sync). eqb y.handle k.0) (map.values s.syncs)) _ None
      (if_none (not (is_open s k.0)) _ _ t).1).0
  happens (event.Close k) _ t h = absurd h
  happens (event.Size k) _ t h = absurd h
  happens (event.Read k o n) (reply.Bytes b) t h = stays (event.Read k o n) (reply.Bytes b) t h refl refl
  happens (event.Read k o n) _ t h = absurd h
  happens (event.Write k o b) (reply.Wrote n end) t h =
      subst (λ (x : ℕ × ℕ). Q (event.Write k o b) (reply.Wrote x.0 x.1) (written s (handle_file s k.0) o b))
      (λ i. (sym h.0 i, sym h.1 i)) (c.writes (event.Write k o b) k o b (inl refl) (may_write s k.0 o (length b) t))
  happens (event.Write k o b) (reply.Refused Memory) t h = stays (event.Write k o b) _ t h refl refl
  happens (event.Write k o b) _ t h = absurd h
  happens (event.Append k b) (reply.Wrote n end) t h = let o = (file_at s (handle_file s k.0)).size in
      subst (λ (x : ℕ × ℕ). Q (event.Append k b) (reply.Wrote x.0 x.1) (written s (handle_file s k.0) o b))
      (λ i. (sym h.0 i, sym h.1 i)) (c.writes (event.Append k b) k o b (inr (refl, refl))
      (may_write s k.0 o (length b) t))
  happens (event.Append k b) (reply.Refused Memory) t h = stays (event.Append k b) _ t h refl refl
  happens (event.Append k b) _ t h = absurd h
  happens (event.Truncate k z) reply.Done t h = truncates k z (may_truncate s k z t)
  happens (event.Truncate k z) _ t h = absurd h
  happens (event.FillBegin k p) reply.Filled t h = c.makes_zeros k p (may_fill s k p t) h
  happens (event.FillBegin k p) (reply.Job u) t h = let may = may_fill s k p t in
      c.fills k p u may h.0 (and_false (is_written s (handle_file s k.0) p.0) (is_full s) may.room h.0) h.1
  happens (event.FillBegin k p) (reply.Refused Memory) t h = stays (event.FillBegin k p) _ t h refl refl
  happens (event.FillBegin k p) _ t h = absurd h
  happens (event.FlushBegin f) (reply.Job u) t h = flush_begins f u t h
  happens (event.FlushBegin f) _ t h = absurd h
  happens (event.End kind end) r t h = ends_of kind end r t h
  happens event.Evict (reply.Evicted f p) t h = let a = mapped_some is_idle (page_at s f.0 p.0) true h in
      c.evicts f p a.0 a.1 a.2
  happens event.Evict _ t h = absurd h
  happens event.Age (reply.Aged n) t h = stays event.Age _ t h refl refl
  happens event.Age _ t h = absurd h
  happens (event.SyncBegin k first last) (reply.Sync m) t h = c.begins k first last m (may_begin s k first last t) h
  happens (event.SyncBegin k first last) _ t h = absurd h
  happens (event.SyncStep m) r t h = sync_steps_of m r (map.get s.syncs m.0) refl t h
  happens (event.SyncDrop m) reply.Dropped t h = let a =
      some_of (map.get s.syncs m.0) (if_some (is_some (map.get s.syncs m.0)) _ t) in c.sync_drops m a.0 a.1
  happens (event.SyncDrop m) _ t h = absurd h

  pub by_cases : (e : Event) (r : Reply) (new : State) → Step s e r new → Q e r new
  by_cases e r new step = elim (answered (tests s e) s e r new step) [
    | inl a ↦ subst (Q e r) (sym a.1) (tested e r (subst (Step s e r) a.1 step) a.0)
    | inr a ↦ subst (Q e r) (sym a.2) (happens e r a.0 a.1)
  ]

-- an event with a reply that no test gives has happened
pub record Happened (s : State) (e : Event) (r : Reply) (new : State) : Type 0 where
  pub untested : tests s e ≡ None
  pub may : MayReply s e r
  pub is : new ≡ changed s e r

pub happened : (s : State) (e : Event) (r : Reply) (new : State) → Step s e r new → is_quiet r ≡ false
    → ((n o : ℕ) → r ≡ reply.Wrote n o → ⊥) → Happened s e r new
happened s e r new step loud wrote = elim (answered (tests s e) s e r new step) [
  | inl a ↦ absurd (elim (answers s e r a.0) [ inl quiet ↦ (let k = sym quiet ∙ loud in cc) | inr k ↦ wrote 0 k.1 k.3 ])
  | inr a ↦ record { untested = a.0; may = a.1; is = a.2 }
]
