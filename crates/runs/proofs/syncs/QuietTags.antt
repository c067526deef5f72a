-- What a step that writes to no file leaves of the pages' tags, where no write of the file failed in it.
use Rattle.std.proofs.Common.{◌≡◌, ℕ, ◌+◌, ◌<◌, true, false, List, [], length, refl, ap, sym, subst, ◌∙◌, arith, inl, inr}
use Rattle.std.proofs.Common.{◌||◌, ◌&&◌, Option, Some, None, option_map}
use Rattle.std.specs.FinMap as finmap
use Rattle.std.proofs.Math.Bool.{or-false}
use Rattle.pc_types.specs.declared.ids.HandleId.{HandleId}
use Rattle.machine.specs.declared.event.End.{End}
use Rattle.machine.specs.declared.event.Event.{Event}
use Rattle.machine.specs.declared.event.Event.TheVariants as event
use Rattle.machine.specs.declared.event.Outcome.{Outcome}
use Rattle.machine.specs.declared.event.Reply.{Reply}
use Rattle.machine.specs.declared.event.Reply.TheVariants as reply
use Rattle.machine.specs.State.{State, File, Page, Request, Sync, file_at, handle_file, page_at, in_range}
use Rattle.machine.specs.Changes.{under_write, after_write, started, ended, to_write, sync_begun, new_sync, put_page}
use Rattle.machine.specs.Changes.{flushed, flush_failed}
use Rattle.machine.specs.Step.{Step}
use Rattle.machine.proofs.steps.Answered.{IsWrite}
use Rattle.machine.proofs.steps.Cases.{Cases, by_cases}
use Rattle.machine.proofs.sound.Lookups.{put_file_tells, put_page_tells, change_page_tells, removed_tells, page_at-create}
use Rattle.maps.specs.Maps.{change_at, each_value}
use Rattle.maps.proofs.Maps.{get-each_value}
use Rattle.runs.specs.Plain.{Plain}
use Rattle.runs.specs.Quiet.{writes}
use Rattle.runs.specs.World.{World, Move, Act, Call, Finish, WorldStep, Ends}
use Rattle.runs.proofs.views.View.{dirty, towrite, put1_at}
use Rattle.runs.proofs.events.Coupled.{Coupled}
use Rattle.runs.proofs.events.Lookups.{failures-set}
use Rattle.runs.proofs.moments.Histories.{calls}
use Rattle.runs.proofs.moments.Limits.{live_file_of}

-- a page that is DIRTY was so, and is TOWRITE still where it was
pub record TagsKept (o n : Option Page) : Type 0 where
  pub was_dirty : dirty n ≡ true → dirty o ≡ true
  pub stays : dirty n ≡ true → towrite o ≡ true → towrite n ≡ true

same_tags : (o n : Option Page) → n ≡ o → TagsKept o n
same_tags o n e = record { was_dirty = λ d. sym (ap dirty e) ∙ d; stays = λ _ t. ap towrite e ∙ t }

clean_now : (o n : Option Page) → dirty n ≡ false → TagsKept o n
clean_now o n e = record { was_dirty = λ d. absurd cc; stays = λ d _. absurd cc }

under_tags : (o : Option Page) → TagsKept o (option_map under_write o)
under_tags None = clean_now None None refl
under_tags (Some x) = clean_now (Some x) (Some (under_write x)) refl

after_tags : (o : Option Page) → TagsKept o (option_map (after_write false) o)
after_tags None = same_tags None None refl
after_tags (Some x) = record { was_dirty = λ d. sym (or-false x.tags.dirty) ∙ d; stays = λ _ t. t }

tagged_tags : (y : Sync) (q : ℕ) (o : Option Page) → TagsKept o (option_map (to_write y q) o)
tagged_tags y q None = same_tags None None refl
tagged_tags y q (Some x) = record { was_dirty = λ d. d; stays = λ _ t. ap (λ b. b || x.tags.dirty && in_range y q) t }

module _ (s : State) (f : ℕ) (live_file : (t : ℕ) (x : Request) → finmap.get s.requests t ≡ Some x → x.dropped ≡ false
    → x.file < length s.files) where
  pub record Keeps (e : Event) (r : Reply) (new : State) : Type 0 where
    pub kept : writes (Act e r) ≡ false → (file_at new f).failures ≡ (file_at s f).failures → (q : ℕ)
        → TagsKept (page_at s f q) (page_at new f q)

  by_pages : (e : Event) (r : Reply) (new : State) → ((q : ℕ) → TagsKept (page_at s f q) (page_at new f q))
      → Keeps e r new
  by_pages e r new tags = record { kept = λ _ _ q. tags q }

  all_same : (e : Event) (r : Reply) (new : State) → ((q : ℕ) → page_at new f q ≡ page_at s f q) → Keeps e r new
  all_same e r new same = by_pages e r new (λ q. same_tags (page_at s f q) (page_at new f q) (same q))

  written : (e : Event) (h : HandleId) (o : ℕ) (b : List ℕ) → IsWrite s e h o b → (n z : ℕ) (new : State)
      → Keeps e (reply.Wrote n z) new
  written e h o b is n z new = elim is [
    | inl a ↦ subst (λ x. Keeps x (reply.Wrote n z) new) (sym a) (record { kept = λ none. absurd cc })
    | inr a ↦ subst (λ x. Keeps x (reply.Wrote n z) new) (sym a.0) (record { kept = λ none. absurd cc })
  ]

  -- a page is put without tags
  put_tags : (z : State) (same : (q : ℕ) → page_at z f q ≡ page_at s f q) (g p : ℕ) (page : Page)
      → page.tags.dirty ≡ false → (q : ℕ) → TagsKept (page_at s f q) (page_at (put_page z g p page) f q)
  put_tags z same g p page none q = elim (put_page_tells z g p page f q) [
    | inl h ↦ clean_now _ _ (ap dirty h.2 ∙ none)
    | inr h ↦ same_tags _ _ (h.0 ∙ same q)
  ]

  start_tags : (g p q : ℕ) → TagsKept (page_at s f q) (page_at (started s g p) f q)
  start_tags g p q = elim (change_page_tells s g p under_write f q) [
    | inl h ↦ subst (TagsKept (page_at s f q)) (sym h.2) (under_tags (page_at s f q))
    | inr h ↦ same_tags _ _ h
  ]

  flushed_tags : (t : ℕ) (x : Request) (q : ℕ) → TagsKept (page_at s f q) (page_at (flushed (ended s t) x) f q)
  flushed_tags t x q = elim (change_page_tells (ended s t) x.file x.page (after_write false) f q) [
    | inl h ↦ subst (TagsKept (page_at s f q)) (sym h.2) (after_tags (page_at s f q))
    | inr h ↦ same_tags _ _ h
  ]

  begun_tags : (g m : ℕ) (y : Sync) (q : ℕ) → TagsKept (page_at s f q) (page_at (sync_begun s g m y) f q)
  begun_tags g m y q = elim (put_file_tells s g
      (record (file_at s g) { pages = each_value (to_write y) (file_at s g).pages }) f q) [
        | inl h ↦ subst (TagsKept (page_at s f q)) (sym (h.1 ∙ get-each_value (to_write y) (file_at s g).pages q
            ∙ ap (λ k. option_map (to_write y q) (page_at s k q)) (sym h.0))) (tagged_tags y q (page_at s f q))
        | inr h ↦ same_tags _ _ h.0
      ]

  -- a write that failed is of another file
  failed : (e : Event) (r : Reply) (t : ℕ) (x : Request) (code : ℕ) → x.file < length s.files
      → Keeps e r (flush_failed (ended s t) x code)
  failed e r t x code here = record { kept = λ _ same q. by same q }
    where
      file : File
      file = record (file_at s x.file) {
        failures = (file_at s x.file).failures + 1;
        last_code = code;
        pages = change_at x.page (after_write true) (file_at s x.file).pages;
      }

      by : (file_at (flush_failed (ended s t) x code) f).failures ≡ (file_at s f).failures → (q : ℕ)
          → TagsKept (page_at s f q) (page_at (flush_failed (ended s t) x code) f q)
      by same q = elim (put_file_tells (ended s t) x.file file f q) [
        | inl h ↦ absurd (
            let more = failures-set (ended s t) x.file file here f
            ∙ put1_at (λ k. (file_at s k).failures) x.file ((file_at s x.file).failures + 1) f h.0 in
            let old = ap (λ k. (file_at s k).failures) h.0 in omega arith)
        | inr h ↦ same_tags _ _ h.0
      ]

  cases : Cases s Keeps
  cases = record {
    same = λ e r step q. all_same e r s (λ q. refl);
    writes_none = λ e h o is step. written e h o [] is 0 o s;
    creates = λ x room is. all_same _ _ _ (page_at-create s f);
    opens = λ x h in_files room low. all_same _ _ _ (λ q. refl);
    closes = λ h opened free. all_same _ _ _ (λ q. refl);
    writes = λ e h o b is may. written e h o b is (length b) (o + length b) _;
    shrinks = λ h z may less. record { kept = λ none. absurd cc };
    grows = λ h z may more. record { kept = λ none. absurd cc };
    makes_zeros = λ h p may zeros. by_pages _ _ _ (put_tags s (λ q. refl) (handle_file s h.0) p.0 _ refl);
    evicts = λ g p page is idle. by_pages _ _ _ (λ q. elim (removed_tells s g.0 p.0 f q) [
      | inl h ↦ clean_now _ _ (ap dirty h.2)
      | inr h ↦ same_tags _ _ h
    ]);
    fills = λ h p t may has room is. all_same _ _ _ (λ q. refl);
    flushes = λ g p page t may is. by_pages _ _ _ (start_tags g.0 p);
    drops = λ kind end x may dropped. all_same _ _ _ (λ q. refl);
    fill_fails = λ end x c may live o. all_same _ _ _ (λ q. refl);
    fill_ends = λ end x b may live o. by_pages _ _ _ (put_tags (ended s end.serial.0) (λ q. refl) x.file x.page _ refl);
    flush_fails = λ end x c may live o. failed _ _ end.serial.0 x c (live_file end.serial.0 x may.is live);
    flush_ends = λ end x may live o. by_pages _ _ _ (flushed_tags end.serial.0 x);
    begins = λ h first last m may low. by_pages _ _ _
        (begun_tags (handle_file s h.0) m.0 (new_sync s h.0 first.0 last.0));
    starts = λ m y p page t is may given. by_pages _ _ _ (start_tags (handle_file s y.handle) p);
    waits = λ m y e p is pick first page. all_same _ _ _ (λ q. refl);
    over = λ m y r is pick first v. all_same _ _ _ (λ q. refl);
    sync_drops = λ m y is. all_same _ _ _ (λ q. refl);
  }

  pub step_tags : (e : Event) (r : Reply) (new : State) → Step s e r new → Keeps e r new
  step_tags e r new step = by_cases s Keeps cases e r new step

-- ---- a step of the world

module _ (w : World) (plain : Plain) (k : Coupled w plain) (f : ℕ) where
  keeps : (e : Event) (r : Reply) (new : State) → Step w.core e r new → Keeps w.core f (live_file_of w plain k) e r new
  keeps e r new step = step_tags w.core f (live_file_of w plain k) e r new step

  pub move_tags : (new : World) (move : Move) → WorldStep w move new → writes move ≡ false
      → (file_at new.core f).failures ≡ (file_at w.core f).failures → (q : ℕ)
      → TagsKept (page_at w.core f q) (page_at new.core f q)
  move_tags new (Act e r) m none same q = (keeps e r new.core m.1.0).kept none same q
  move_tags new (Call t fault effect) m none same q = same_tags _ _
      (ap (λ (s : State). page_at s f q)
      (calls w new t (finmap.get w.core.requests t) (finmap.get w.outcomes t) fault effect m))
  move_tags new (Finish t r) m none same q = finished (finmap.get w.core.requests t) (finmap.get w.outcomes t) m
    where
      finished : (x : Option Request) (o : Option Outcome) → Ends w t x o r new
          → TagsKept (page_at w.core f q) (page_at new.core f q)
      finished (Some x) (Some call) h = let end : End =
          record { cache = w.core.name; kind = x.kind; serial = record { 0 = t }; block = record { 0 = x.block }; outcome = call } in
          (keeps (event.End x.kind end) r new.core h.0).kept refl same q
      finished (Some x) None h = absurd h
      finished None o h = absurd h
