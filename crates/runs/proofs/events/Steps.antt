-- Each step of the world keeps cache and plain files coupled.
use Rattle.std.proofs.Common.{◌&&◌, nat_le, Option, Some, None, eqb, ◌≡◌, ℕ, ◌+◌, Bool, true, false, List, [], length}
use Rattle.std.proofs.Common.{refl, ap, sym, subst, ◌∙◌, inl, inr, nat_cmp}
use Rattle.std.specs.Prelude.{unwrap_or}
use Rattle.machine.specs.Changes.{is_left, drop_sync, shrunk, new_sync, sync_begun}
use Rattle.machine.specs.Changes as changes
use Rattle.machine.specs.State.{page_count, State, Page, Request, Sync, file_at, handle_file, page_at}
use Rattle.machine.proofs.steps.Cases.{IsVerdict, Cases, by_cases}
use Rattle.pc_types.specs.declared.ids.SyncId.{SyncId}
use Rattle.pc_types.specs.declared.refusal.Refusal.TheVariants.{Stranger}
use Rattle.std.specs.FinMap as finmap
use Rattle.std.proofs.lemmas.List.{set-get_or}
use Rattle.pc_types.specs.Files.{pwrite, cut}
use Rattle.pc_types.specs.declared.ids.HandleId.{HandleId}
use Rattle.pc_types.specs.declared.kind.Kind.{Kind}
use Rattle.pc_types.specs.declared.kind.Kind.TheVariants.{Fill, Flush}
use Rattle.machine.specs.declared.event.End.{End}
use Rattle.machine.specs.declared.event.Event.{Event}
use Rattle.machine.specs.declared.event.Event.TheVariants as event
use Rattle.machine.specs.declared.event.Outcome.{Outcome}
use Rattle.machine.specs.declared.event.Reply.{Reply}
use Rattle.machine.specs.declared.event.Reply.TheVariants as reply
use Rattle.machine.specs.Step.{Step, AnswersOr}
use Rattle.machine.proofs.steps.Answered.{is_quiet, IsWrite}
use Rattle.machine.proofs.steps.Ends.{end_loud}
use Rattle.machine.proofs.changes.ChangeLaws.{written_writes, shrunk_truncates, sync_begun_begins}
use Rattle.machine.proofs.steps.Choices.{and_true}
use Rattle.machine.proofs.steps.Passed.{MayWrite}
use Rattle.runs.specs.Plain.{Plain, plain_file, named, plain_after, change}
use Rattle.runs.specs.World.{World, Move, Act, Call, Finish, WorldStep, IsAct, Ends, noted}
use Rattle.runs.specs.Runs.{plain_move}
use Rattle.runs.specs.Syncing.{cuts_off}
use Rattle.runs.proofs.views.View.{no_gone, dirty, towrite}
use Rattle.runs.proofs.events.Coupled.{Coupled, After, with_core, same_after, put_plain}
use Rattle.runs.proofs.events.FileEvents.{creates, opens, closes}
use Rattle.runs.proofs.events.Evicts.{other_syncs, evicted}
use Rattle.runs.proofs.events.Fills.{at_once, fills_begin}
use Rattle.runs.proofs.events.Flushes.{starts_with, begun_sync}
use Rattle.runs.proofs.events.Ends.{quietly, filled, failed, written, known}
use Rattle.runs.proofs.events.Calls.{call_kept}
use Rattle.runs.proofs.events.Truncations.{grows, shrinks}
use Rattle.runs.proofs.events.Writes.{wrote}

-- ---- a reply that comes with no change

pub plain_same : (v : Plain) (e : Event) (r : Reply) → is_quiet r ≡ true → plain_after v e r ≡ v
plain_same v event.Create (reply.File f) q = absurd cc
plain_same v (event.Open f) (reply.Handle h) q = absurd cc
plain_same v (event.Close h) reply.Closed q = absurd cc
plain_same v (event.Write h o b) (reply.Wrote n end) q = absurd cc
plain_same v (event.Append h b) (reply.Wrote n end) q = absurd cc
plain_same v (event.Truncate h z) reply.Done q = absurd cc
plain_same v _ _ q = refl

pub noted_same : (writing : finmap.FinMap nat_cmp (List ℕ)) (s : State) (r : Reply)
    → is_quiet r ≡ true → noted writing r s ≡ writing
noted_same writing s (reply.Job t) q = absurd cc
noted_same writing s _ q = refl

-- ---- a step of the world

module _ (w : World) (plain : Plain) (c : Coupled w plain) where
  abbrev s : State
  s = w.core

  abbrev pub off : Move → ℕ → ℕ → Bool
  off move = cuts_off w.core.sizes.page plain move

  -- the world after an event that is no end
  abbrev pub acted : Reply → State → World
  acted r new = record w { core = new; writing = noted w.writing r new }

  -- the world after an end of request t
  abbrev pub done : ℕ → State → World
  done t new = record w { core = new; outcomes = finmap.remove w.outcomes t; writing = finmap.remove w.writing t }

  pub record Kept (e : Event) (r : Reply) (new : State) : Type 0 where
    pub acts : IsAct e r → After w plain (off (Act e r)) (acted r new) (plain_after plain e r)
    pub ends : (kind : Kind) (end : End) → e ≡ event.End kind end → is_quiet r ≡ false
        → finmap.get w.outcomes end.serial.0 ≡ Some end.outcome → After w plain no_gone (done end.serial.0 new) plain

  -- the file that a handle names
  same_file : (h : HandleId) → named plain h.0 ≡ handle_file s h.0
  same_file h = ap (λ m. unwrap_or (finmap.get m h.0) 0) c.handles

  quiet : (e : Event) (r : Reply) → is_quiet r ≡ true → Kept e r s
  quiet e r q = record {
    acts = λ _. subst (λ (x : finmap.FinMap nat_cmp (List ℕ)). After w plain (off (Act e r))
        (record w { writing = x }) (plain_after plain e r)) (sym (noted_same w.writing s r q))
        (subst (After w plain (off (Act e r)) w) (sym (plain_same plain e r q)) (same_after (off (Act e r)) w plain c));
    ends = λ kind end _ loud _. absurd cc;
  }

  nothing_written : (h : HandleId) (o : ℕ) → change plain h.0 (λ file. pwrite file o []) ≡ plain
  nothing_written h o = λ i. record plain { files = set-get_or plain.files (named plain h.0) [] i }

  empty : (e : Event) (h : HandleId) (o : ℕ) → IsWrite s e h o [] → Kept e (reply.Wrote 0 o) s
  empty e h o is = elim is [
    | inl a ↦ subst (λ x. Kept x (reply.Wrote 0 o) s) (sym a)
        (record {
          acts = λ _. subst (After w plain no_gone w) (sym (nothing_written h o))
              (same_after no_gone w plain c);
          ends = λ kind end same _ _. absurd cc;
        })
    | inr a ↦ subst (λ x. Kept x (reply.Wrote 0 o) s) (sym a.0)
        (record {
          acts =
              λ _. subst (After w plain no_gone w)
              (sym (nothing_written h (length (plain_file plain (named plain h.0)))))
              (same_after no_gone w plain c);
          ends = λ kind end same _ _. absurd cc;
        })
  ]

  written_at : (h : HandleId) (o : ℕ) (b : List ℕ) → MayWrite s h.0 o (length b)
      → After w plain no_gone (with_core w (changes.written s (handle_file s h.0) o b))
      (change plain h.0 (λ file. pwrite file o b))
  written_at h o b may =
      let f = handle_file s h.0 in
      let here = c.valid h.0 may.opened in
      subst (λ k. After w plain no_gone (with_core w (changes.written s f o b))
      (put_plain plain k (pwrite (plain_file plain k) o b))) (sym (same_file h))
      (wrote w plain c f o b here may.some (changes.written s f o b)
      (written_writes s f o b here may.blocks) may.blocks may.free)

  write : (e : Event) (h : HandleId) (o : ℕ) (b : List ℕ) → IsWrite s e h o b → MayWrite s h.0 o (length b)
      → Kept e (reply.Wrote (length b) (o + length b)) (changes.written s (handle_file s h.0) o b)
  write e h o b is may = elim is [
    | inl a ↦ subst (λ x. Kept x (reply.Wrote (length b) (o + length b)) new) (sym a)
        (record { acts = λ _. written_at h o b may; ends = λ kind end same _ _. absurd cc })
    | inr a ↦ subst (λ x. Kept x (reply.Wrote (length b) (o + length b)) new) (sym a.0)
        (record {
          acts =
              λ _. subst (λ k. After w plain no_gone (with_core w new)
              (put_plain plain (named plain h.0) (pwrite (plain_file plain (named plain h.0)) k b))) (a.1 ∙ sym (at h))
              (written_at h o b may);
          ends = λ kind end same _ _. absurd cc;
        })
  ]
    where
      new : State
      new = changes.written s (handle_file s h.0) o b

      at : (h : HandleId) → length (plain_file plain (named plain h.0)) ≡ (file_at s (handle_file s h.0)).size
      at h = ap (λ k. length (plain_file plain k)) (same_file h) ∙ c.sizes (handle_file s h.0)

  -- the pages of f that a cut to z bytes leaves off
  abbrev cut_off : ℕ → ℕ → ℕ → ℕ → Bool
  cut_off f z g q = eqb f g && nat_le (page_count s.sizes.page z) q

  -- a truncation, by the file that is cut
  cut_at : (h : HandleId) (z : ℕ) (new : State)
      → After w plain (cut_off (handle_file s h.0) z) (with_core w new)
      (put_plain plain (handle_file s h.0) (cut (plain_file plain (handle_file s h.0)) z))
      → Kept (event.Truncate h z) reply.Done new
  cut_at h z new a = record {
    acts = λ _. subst (λ k. After w plain (cut_off k z) (with_core w new) (put_plain plain k (cut (plain_file plain k) z)))
        (sym (same_file h)) a;
    ends = λ kind end same _ _. absurd cc;
  }

  -- an end with this reply of request x comes as Finish alone
  only_ends : (kind : Kind) (end : End) (r : Reply) (new : State)
      → (r ≡ reply.Refused Stranger → ⊥)
      → (finmap.get w.outcomes end.serial.0 ≡ Some end.outcome → After w plain no_gone (done end.serial.0 new) plain)
      → Kept (event.End kind end) r new
  only_ends kind end r new never a =
      record {
        acts = λ is. absurd (never is);
        ends = λ k x same _ call. (let e : end ≡ x = cc in
            subst (λ (x : End). After w plain no_gone (done x.serial.0 new) plain) e
            (a (subst (λ (x : End). finmap.get w.outcomes x.serial.0 ≡ Some x.outcome) (sym e) call)));
      }

  abbrev ends_none : Event → Bool
  ends_none (event.End kind end) = false
  ends_none _ = true

  -- any other event comes as such
  only_acts : (e : Event) (r : Reply) (new : State) → ends_none e ≡ true
      → After w plain (off (Act e r)) (acted r new) (plain_after plain e r) → Kept e r new
  only_acts e r new none a =
      record { acts = λ _. a; ends = λ kind end same _ _. absurd (let b = sym none ∙ ap ends_none same in cc) }

  sync_starts_dirty : (y : Sync) (p : ℕ) (page : Page) → page_at s (handle_file s y.handle) p ≡ Some page
      → is_left y (p, page) ≡ true → page.tags.dirty ≡ true
  sync_starts_dirty y p page is left = sym (ap dirty is)
      ∙ (c.good.pages (handle_file s y.handle) p).towrite
      (ap towrite is ∙ (and_true page.tags.towrite _ (and_true _ _ left).0).0)

  cases : Cases s Kept
  cases = record {
    same = λ e r step q. quiet e r q;
    writes_none = λ e h o is step. empty e h o is;
    creates = λ f room is. only_acts _ _ _ refl (creates w plain c);
    opens = λ f h in_files room low. only_acts _ _ _ refl (opens w plain c h.0 f.0 in_files);
    closes = λ h opened free. only_acts _ _ _ refl (closes w plain c h.0);
    writes = write;
    shrinks = λ h z may less. let f = handle_file s h.0 in let here = c.valid h.0 may.opened in
        cut_at h z (shrunk s f z) (shrinks w plain c f z here (shrunk s f z) (shrunk_truncates s f z here) less
        may.free);
    grows = λ h z may more. cut_at h z _ (grows w plain c (handle_file s h.0) z (c.valid h.0 may.opened) more);
    makes_zeros = λ h p may unwritten. only_acts _ _ _ refl
        (at_once w plain c (handle_file s h.0) p.0 (c.valid h.0 may.opened) may.within may.idle may.absent unwritten);
    evicts = λ f p page is idle. only_acts _ _ _ refl (evicted w plain c f.0 p.0 page is idle);
    fills = λ h p t may has full is. only_acts _ _ _ refl
        (fills_begin w plain c (handle_file s h.0) p.0 (c.valid h.0 may.opened) may.within may.idle may.absent t is
        has);
    flushes = λ f p page t may is. only_acts _ _ _ refl
        (starts_with w plain c f.0 p page may.is may.dirty may.clean s.syncs t is);
    drops = λ kind end x may dropped. only_ends kind end _ _ (λ refused. absurd cc)
        (λ call. quietly w plain c end.serial.0 x may.is (λ d k. absurd cc));
    fill_fails = λ end x code may live o. only_ends Fill end _ _ (λ refused. absurd cc)
        (λ call. quietly w plain c end.serial.0 x may.is (λ d k. absurd (let a = may.kind_is in cc)));
    fill_ends = λ end x b may live o. only_ends Fill end _ _ (λ refused. absurd cc)
        (λ call. filled w plain c end.serial.0 x may.is b live may.kind_is (call ∙ ap Some o));
    flush_fails = λ end x code may live o. only_ends Flush end _ _ (λ refused. absurd cc)
        (λ call. failed w plain c end.serial.0 x may.is code live may.kind_is);
    flush_ends = λ end x may live o. only_ends Flush end _ _ (λ refused. absurd cc)
        (λ call. written w plain c end.serial.0 x may.is live may.kind_is (call ∙ ap Some o));
    begins = λ h first last m may low. let f = handle_file s h.0 in let y = new_sync s h.0 first.0 last.0 in
        let here = c.valid h.0 may.opened in
        only_acts _ _ _ refl
        (begun_sync w plain c f m.0 y (sync_begun s f m.0 y) (sync_begun_begins s f m.0 y here) here);
    starts = λ m y p page t is may given. only_acts _ _ _ refl
        (starts_with w plain c (handle_file s y.handle) p page may.is (sync_starts_dirty y p page may.is may.left)
        may.clean _ t given);
    waits = λ m y e p is pick first page. only_acts _ _ _ refl (other_syncs w plain c _);
    over = λ m y r is pick first verdict. over m y r verdict;
    sync_drops = λ m y is. only_acts _ _ _ refl (other_syncs w plain c _);
  }
    where
      over : (m : SyncId) (y : Sync) (r : Reply)
          → IsVerdict s y r
          → Kept (event.SyncStep m) r (drop_sync s m.0)
      over m y reply.Clean h = only_acts _ _ _ refl (other_syncs w plain c _)
      over m y (reply.Failed code) h = only_acts _ _ _ refl (other_syncs w plain c _)
      over m y _ h = absurd h

  pub step_kept : (e : Event) (r : Reply) (new : State) → Step s e r new → Kept e r new
  step_kept e r new step = by_cases s Kept cases e r new step

  -- a request ends with its noted outcome
  finish_kept : (t : ℕ) (r : Reply) (new : World) → Ends w t (finmap.get s.requests t) (finmap.get w.outcomes t) r new
      → After w plain no_gone new plain
  finish_kept t r new h = go (finmap.get s.requests t) refl (finmap.get w.outcomes t) refl h
    where
      go : (q : Option Request) → finmap.get s.requests t ≡ q → (o : Option Outcome) → finmap.get w.outcomes t ≡ o
          → Ends w t q o r new → After w plain no_gone new plain
      go (Some x) is (Some call) noted h =
          let end : End = record { cache = s.name; kind = x.kind; serial = record { 0 = t }; block = record { 0 = x.block }; outcome = call } in
          let may : AnswersOr None s (event.End x.kind end) r new.core =
          subst (λ o. AnswersOr o s (event.End x.kind end) r new.core) (known w plain c t x is call noted) h.0 in
          subst (λ v. After w plain no_gone v plain) (sym h.1)
          ((step_kept (event.End x.kind end) r new.core h.0).ends x.kind end refl
          (end_loud (finmap.get s.requests t) call r may.0) noted)
      go (Some x) is None noted h = absurd h
      go None is o noted h = absurd h

  pub move_kept : (move : Move) (new : World) → WorldStep w move new
      → After w plain (off move) new (plain_move plain move)
  move_kept (Act e r) new m = subst (λ x. After w plain (off (Act e r)) x (plain_after plain e r)) (sym m.1.1)
      ((step_kept e r new.core m.1.0).acts m.0)
  move_kept (Call t fault effect) new m = call_kept w plain c t fault effect new m
  move_kept (Finish t r) new m = finish_kept t r new m
