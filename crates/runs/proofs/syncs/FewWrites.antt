-- Syncs start few writes.
use Rattle.maps.proofs.Count.{passing, count_of, count_le, count_lt}
use Rattle.maps.specs.Maps.{each_value, change_at}
use Rattle.pc_types.specs.declared.ids.SyncId.{SyncId}
use Rattle.machine.specs.declared.event.Outcome.{Outcome}
use Rattle.pc_types.specs.declared.ids.HandleId.{HandleId}
use Rattle.std.proofs.Common.{◌≡◌, ℕ, ◌+◌, ◌/◌, ◌<◌, ◌≤◌, Bool, true, false, cond, eqb, eqb-true, List, [], ◌∷◌, length}
use Rattle.std.proofs.Common.{get_or, refl, ap, sym, ◌∙◌, arith, inl, inr, subst, map, ◌&&◌, ◌||◌, ◌==◌, if◌then◌else◌}
use Rattle.std.proofs.Common.{Option, Some, None, is_some, option_map, nat_le, slice_set, count_by, nat_cmp}
use Rattle.std.specs.Prelude.{unwrap_or}
use Rattle.std.specs.FinMap as finmap
use Rattle.std.proofs.lemmas.Bool.Decides.{nat_tests}
use Rattle.std.proofs.lemmas.List.Sums.{sum_by-cons}
use Rattle.machine.specs.declared.event.End.{End}
use Rattle.machine.specs.declared.event.Event.{Event}
use Rattle.machine.specs.declared.event.Event.TheVariants as event
use Rattle.machine.specs.declared.event.Reply.{Reply}
use Rattle.machine.specs.declared.event.Reply.TheVariants as reply
use Rattle.machine.specs.State.{State, File, Page, Request, Sync, file_at, handle_file, is_open, page_at, no_file}
use Rattle.machine.specs.State.{page_count, has_block, in_range}
use Rattle.machine.specs.Changes.{under_write, after_write, started, to_write, sync_begun, new_sync, written_page}
use Rattle.machine.specs.Changes.{written, cut_page, boundary, drop_sync}
use Rattle.machine.specs.Step.{Step}
use Rattle.machine.proofs.steps.Answered.{is_quiet, IsWrite}
use Rattle.machine.proofs.steps.Cases.{Cases, by_cases, IsVerdict}
use Rattle.machine.proofs.changes.ChangeLaws.{get-written_pages, cut_pages, get-cut_pages}
use Rattle.machine.proofs.steps.Choices.{and_true, by_choice}
use Rattle.maps.proofs.MapLaws.{entries-each_value, get-change_at}
use Rattle.machine.proofs.steps.Passed.{MayStart}
use Rattle.machine.proofs.changes.StateLaws.{file_at-put, page_at-put, touches}
use Rattle.machine.proofs.changes.Adopted.{adopted_file}
use Rattle.runs.specs.Plain.{Plain}
use Rattle.runs.specs.Seen.{files_seen}
use Rattle.runs.specs.Runs.{Steps, Run, last, plain_move}
use Rattle.runs.specs.Syncing.{dirty_between, started_by, tagged_by, total, SyncWritesAreFew}
use Rattle.runs.specs.World.{World, Move, Act, Call, Finish, WorldStep, Ends}
use Rattle.runs.proofs.views.View.{put1_tells, put2, put2_tells, towrite}
use Rattle.runs.proofs.events.Coupled.{Coupled, coupled}
use Rattle.runs.proofs.moments.Histories.{calls}
use Rattle.runs.proofs.moments.Limits.{live_file_of}
use Rattle.runs.proofs.events.Lookups.{cached_within, change_page-is, get-insert1, get-remove1, page_at-put_page}
use Rattle.machine.proofs.sound.Lookups.{get_or-default}
use Rattle.runs.proofs.moments.Moments.{first_coupled}
use Rattle.runs.proofs.events.Steps.{move_kept}

abbrev is_towrite : Page → Bool
is_towrite x = x.tags.towrite

-- how many pages of f are TOWRITE
abbrev waiting : State → ℕ → ℕ
waiting s f = count_of is_towrite (file_at s f).pages

-- no page gets TOWRITE
record NoneTagged (s new : State) : Type 0 where
  pub was : (g q : ℕ) → towrite (page_at new g q) ≡ true → towrite (page_at s g q) ≡ true

tagged_page : (o : Option Page) → towrite o ≡ true → (y : Page) × (o ≡ Some y) × (y.tags.towrite ≡ true)
tagged_page None e = absurd cc
tagged_page (Some x) e = (x, refl, e)

no_more_waiting : (s new : State) → NoneTagged s new → (f : ℕ) → waiting new f ≤ waiting s f
no_more_waiting s new n f = count_le is_towrite is_towrite (file_at new f).pages
    (file_at s f).pages (λ q x e t. tagged_page (page_at s f q) (n.was f q (ap towrite e ∙ t)))

same_files : (s new : State) → new.files ≡ s.files → NoneTagged s new
same_files s new e = record { was = λ g q t. sym (ap (λ fs. towrite (finmap.get (get_or fs g no_file).pages q)) e) ∙ t }

-- one file changes
file_pages : (s new : State) (f : ℕ) (file : File) → f < length s.files → new.files ≡ slice_set s.files f file
    → ((q : ℕ) → towrite (finmap.get file.pages q) ≡ true → towrite (page_at s f q) ≡ true) → NoneTagged s new
file_pages s new f file here e h =
    record {
      was =
          λ g q t. go g q (eqb g f) refl
          (sym (ap (λ fs. towrite (finmap.get (get_or fs g no_file).pages q)) e
          ∙ ap towrite (page_at-put s f file here g q))
          ∙ t);
    }
  where
    go : (g q : ℕ) (b : Bool) → eqb g f ≡ b → towrite (cond b (finmap.get file.pages q) (page_at s g q)) ≡ true
        → towrite (page_at s g q) ≡ true
    go g q true k t = (λ i. towrite (page_at s (eqb-true g f k i) q)) ∙ h q t
    go g q false k t = t

-- a page is put that is not TOWRITE
put_one : (m : finmap.FinMap nat_cmp Page) (p : ℕ) (page : Page) → page.tags.towrite ≡ false → (q : ℕ)
    → towrite (finmap.get (finmap.insert m p page) q) ≡ true → towrite (finmap.get m q) ≡ true
put_one m p page h q t = elim (put1_tells (finmap.get m) p (Some page) q) [
  | inl a ↦ absurd (let b = sym (ap towrite (get-insert1 m p page q ∙ a.1)) ∙ t in cc)
  | inr a ↦ sym (ap towrite (get-insert1 m p page q ∙ a.1)) ∙ t
]

drop_one : (m : finmap.FinMap nat_cmp Page) (p q : ℕ) → towrite (finmap.get (finmap.remove m p) q) ≡ true
    → towrite (finmap.get m q) ≡ true
drop_one m p q t = elim (put1_tells (finmap.get m) p None q) [
  | inl a ↦ absurd (let b = ap towrite (get-remove1 m p q ∙ a.1) in cc)
  | inr a ↦ sym (ap towrite (get-remove1 m p q ∙ a.1)) ∙ t
]

mapped_towrite : (g : Page → Page) → ((x : Page) → (g x).tags.towrite ≡ true → x.tags.towrite ≡ true)
    → (o : Option Page) → towrite (option_map g o) ≡ true → towrite o ≡ true
mapped_towrite g h None t = absurd cc
mapped_towrite g h (Some x) t = h x t

-- a page is changed, and gets no TOWRITE
change_one : (m : finmap.FinMap nat_cmp Page) (p : ℕ) (g : Page → Page)
    → ((x : Page) → (g x).tags.towrite ≡ true → x.tags.towrite ≡ true) → (q : ℕ)
    → towrite (finmap.get (change_at p g m) q) ≡ true → towrite (finmap.get m q) ≡ true
change_one m p g h q t = by_choice (λ o. towrite o ≡ true) (eqb q p) (option_map g (finmap.get m q)) (finmap.get m q)
    (mapped_towrite g h (finmap.get m q)) (λ k. k)
    (sym (ap towrite (get-change_at p g m q)) ∙ t)

written_towrite : (P o : ℕ) (b : List ℕ) (q : ℕ) (x : Option Page) → towrite (Some (written_page P o b q x)) ≡ true
    → towrite x ≡ true
written_towrite P o b q None t = absurd cc
written_towrite P o b q (Some x) t = t

cut_towrite : (P z : ℕ) (has : Bool) (x : Page) → (cut_page P z has x).tags.towrite ≡ true → x.tags.towrite ≡ true
cut_towrite P z true x t = t
cut_towrite P z false x t = t

-- ---- a sync begins

-- of pages of which those that are DIRTY in the range become TOWRITE
tagged_count : (y : Sync) (es : List (ℕ × Page))
    → count_by (λ (e : ℕ × Page). e.1.tags.towrite) (map (λ (e : ℕ × Page). (e.0, to_write y e.0 e.1)) es)
    ≤ count_by (λ (e : ℕ × Page). e.1.tags.towrite) es
    + count_by (λ (e : ℕ × Page). e.1.tags.dirty && nat_le y.first e.0 && nat_le e.0 y.last) es
tagged_count y [] = omega arith
tagged_count y (e ∷ es) =
    let rest = tagged_count y es in
    let a = sum_by-cons (λ (x : ℕ × Page). cond {A = ℕ} x.1.tags.towrite 1 0) (e.0, to_write y e.0 e.1)
    (map (λ (e : ℕ × Page). (e.0, to_write y e.0 e.1)) es) in
    let b = sum_by-cons (λ (x : ℕ × Page). cond {A = ℕ} x.1.tags.towrite 1 0) e es in
    let c = sum_by-cons (λ (x : ℕ × Page). cond {A = ℕ} (x.1.tags.dirty && nat_le y.first x.0 && nat_le x.0 y.last) 1 0)
    e es in
    let d = one e.1.tags.towrite e.1.tags.dirty (nat_le y.first e.0) (nat_le e.0 y.last) in
    omega arith
  where
    one : (t d l h : Bool) → cond {A = ℕ} (t || d && (l && h)) 1 0 ≤ cond t 1 0 + cond (d && l && h) 1 0
    one true d l h = omega arith
    one false true true true = omega arith
    one false true true false = omega arith
    one false true false h = omega arith
    one false false l h = omega arith

begun_waiting : (s : State) (f m : ℕ) (y : Sync) → f < length s.files → (g : ℕ)
    → waiting (sync_begun s f m y) g ≤ waiting s g + (if f == g then dirty_between (file_at s g) y.first y.last else 0)
begun_waiting s f m y here g = go (eqb f g) refl
  where
    file : File
    file = record (file_at s f) { pages = each_value (to_write y) (file_at s f).pages }

    pages_now : (b : Bool) → eqb g f ≡ b
        → waiting (sync_begun s f m y) g ≡ count_of is_towrite (cond b file (file_at s g)).pages
    pages_now b e = ap (λ (x : File). count_of is_towrite x.pages)
        (file_at-put s f g file here ∙ ap (λ t. cond t file (file_at s g)) e)

    turn : (a b : ℕ) (t : Bool) → eqb a b ≡ t → eqb b a ≡ t
    turn a b true e = grind (arith, nat_tests)
    turn a b false e = grind (arith, nat_tests)

    go : (t : Bool) → eqb f g ≡ t → waiting (sync_begun s f m y) g ≤ waiting s g
        + cond t (dirty_between (file_at s g) y.first y.last) 0
    go true e =
        let same : f ≡ g = eqb-true f g e in
        let now = pages_now true (turn f g true e) in
        let es = ap (count_by (λ (e : ℕ × Page). e.1.tags.towrite))
        (entries-each_value (to_write y) (file_at s f).pages) in
        let less = tagged_count y (finmap.entries (file_at s f).pages) in
        let was : waiting s f ≡ waiting s g = ap (waiting s) same in
        let dirty : dirty_between (file_at s f) y.first y.last ≡ dirty_between (file_at s g) y.first y.last =
        ap (λ k. dirty_between (file_at s k) y.first y.last) same in
        omega arith
    go false e = let now = pages_now false (turn f g false e) in omega arith

-- ---- a sync starts a write

start_waiting : (s : State) (y : Sync) (p : ℕ) (page : Page) → MayStart s y p page → (g : ℕ)
    → (if handle_file s y.handle == g then 1 else 0) + waiting (started s (handle_file s y.handle) p) g ≤ waiting s g
start_waiting s y p page may g = go (eqb f g) refl
  where
    f : ℕ
    f = handle_file s y.handle

    new : State
    new = started s (handle_file s y.handle) p

    here : f < length s.files
    here = cached_within s f p (ap is_some may.is)

    tagged : page.tags.towrite ≡ true
    tagged = (and_true page.tags.towrite (in_range y p) (and_true (page.tags.towrite && in_range y p) _ may.left).0).0

    page_now : (h q : ℕ) → page_at new h q ≡ put2 (page_at s) f p (Some (under_write page)) h q
    page_now h q = ap (λ (x : State). page_at x h q) (change_page-is s f p under_write page may.is)
        ∙ page_at-put_page s f p (under_write page) here h q

    kept : (h q : ℕ) (x : Page) → page_at new h q ≡ Some x → x.tags.towrite ≡ true
        → ((h ≡ f) → (q ≡ p) → ⊥) × (page_at s h q ≡ Some x)
    kept h q x k t = elim (put2_tells (page_at s) f p (Some (under_write page)) h q) [
      | inl a ↦ absurd (let b : Some (under_write page) ≡ Some x = sym (page_now h q ∙ a.2) ∙ k in
          let d : under_write page ≡ x = cc in let m = ap (λ (y : Page). y.tags.towrite) d in cc)
      | inr a ↦ (a.0, sym (page_now h q ∙ a.1) ∙ k)
    ]

    go : (t : Bool) → eqb f g ≡ t → cond t 1 0 + waiting new g ≤ waiting s g
    go true k =
        let same : f ≡ g = eqb-true f g k in
        let less = count_lt is_towrite is_towrite (file_at new g).pages
        (file_at s g).pages p page (λ q x j t. let m = kept g q x j t in (m.0 (sym same), (x, m.1, t)))
        ((λ i. page_at s (sym same i) p) ∙ may.is) tagged in
        omega arith
    go false k =
        let less = count_le is_towrite is_towrite (file_at new g).pages
        (file_at s g).pages (λ q x j t. (x, (kept g q x j t).1, t)) in
        omega arith

-- ---- a step of the cache

none_started : (s : State) (f : ℕ) (e : Event) (r : Reply) → is_quiet r ≡ true → started_by s (Act e r) f ≡ 0
none_started s f (event.SyncStep m) (reply.Job t) q = absurd cc
none_started s f _ _ q = refl

module _ (s : State) (f : ℕ) (valid : (h : ℕ) → is_open s h ≡ true → handle_file s h < length s.files)
    (live_file : (t : ℕ) (x : Request) → finmap.get s.requests t ≡ Some x → x.dropped ≡ false
    → x.file < length s.files) where
  -- this step starts and tags no more than it should
  pub record Few (e : Event) (r : Reply) (new : State) : Type 0 where
    pub few : started_by s (Act e r) f + waiting new f ≤ waiting s f + tagged_by s (Act e r) f

  quiet : (e : Event) (r : Reply) (new : State) → started_by s (Act e r) f ≡ 0 → NoneTagged s new → Few e r new
  quiet e r new none tags = record { few = let a = no_more_waiting s new tags f in omega arith }

  -- one file changes
  changes : (e : Event) (r : Reply) (new : State) (g : ℕ) (file : File) → started_by s (Act e r) f ≡ 0
      → g < length s.files → new.files ≡ slice_set s.files g file
      → ((q : ℕ) → towrite (finmap.get file.pages q) ≡ true → towrite (page_at s g q) ≡ true) → Few e r new
  changes e r new g file none here files h = quiet e r new none (file_pages s new g file here files h)

  cut : (g z q : ℕ) → towrite (finmap.get (cut_pages s g z) q) ≡ true → towrite (page_at s g q) ≡ true
  cut g z q h =
      by_choice (λ o. towrite o ≡ true) (nat_le (page_count s.sizes.page z) q) _ _ (λ k. absurd cc)
      (λ k. by_choice (λ o. towrite o ≡ true) (eqb (z / s.sizes.page) q && is_some (boundary s g z)) _ _
      (λ j. mapped_towrite (cut_page s.sizes.page z (has_block s g q))
      (cut_towrite s.sizes.page z (has_block s g q)) (page_at s g q) j) (λ j. j) k)
      (sym (ap towrite (get-cut_pages s g z q)) ∙ h)

  -- a write, by which event it came
  write : (e : Event) (h : HandleId) (o : ℕ) (b : List ℕ)
      → IsWrite s e h o b → (n z : ℕ) (new : State) → NoneTagged s new → Few e (reply.Wrote n z) new
  write e h o b is n z new tags = elim is [
    | inl a ↦ subst (λ x. Few x (reply.Wrote n z) new) (sym a) (quiet _ _ new refl tags)
    | inr a ↦ subst (λ x. Few x (reply.Wrote n z) new) (sym a.0) (quiet _ _ new refl tags)
  ]

  -- the files stay
  unwritten : (e : Event) (r : Reply) (new : State) → started_by s (Act e r) f ≡ 0 → new.files ≡ s.files → Few e r new
  unwritten e r new none files = quiet e r new none (same_files s new files)

  verdict : (m : SyncId) (y : Sync) (r : Reply) → IsVerdict s y r → Few (event.SyncStep m) r (drop_sync s m.0)
  verdict m y reply.Clean h = unwritten _ _ _ refl refl
  verdict m y (reply.Failed c) h = unwritten _ _ _ refl refl
  verdict m y _ h = absurd h

  zero_more : (a b : ℕ) → a ≤ b → 0 + a ≤ b
  zero_more a b l = omega arith

  cases : Cases s Few
  cases = record {
    same = λ e r step q. unwritten e r s (none_started s f e r q) refl;
    writes_none = λ e h o is step. write e h o [] is 0 o s (same_files s s refl);
    creates = λ x room is. quiet _ _ _ refl
        (record {
          was =
              λ g q t. sym (ap (λ (x : File). towrite (finmap.get x.pages q)) (get_or-default s.files no_file g)) ∙ t;
        });
    opens = λ x h in_files room low. unwritten _ _ _ refl refl;
    closes = λ h opened free. unwritten _ _ _ refl refl;
    writes = λ e h o b is may. write e h o b is (length b) (o + length b) (written s (handle_file s h.0) o b)
        (file_pages s (written s (handle_file s h.0) o b) (handle_file s h.0) _ (valid h.0 may.opened) refl
        (λ q t. by_choice (λ o. towrite o ≡ true) (touches s.sizes.page o (length b) q) _ _
        (λ k. written_towrite s.sizes.page o b q (page_at s (handle_file s h.0) q) k) (λ k. k)
        (sym (ap towrite (get-written_pages s.sizes.page o b (file_at s (handle_file s h.0)).pages q)) ∙ t)));
    shrinks = λ h z may less. changes _ _ _ (handle_file s h.0) _ refl (valid h.0 may.opened) refl
        (cut (handle_file s h.0) z);
    grows = λ h z may more. changes _ _ _ (handle_file s h.0) _ refl (valid h.0 may.opened) refl (λ q t. t);
    makes_zeros = λ h p may zeros. changes _ _ _ (handle_file s h.0) _ refl (valid h.0 may.opened) refl
        (put_one (file_at s (handle_file s h.0)).pages p.0 _ refl);
    evicts = λ g p page is idle. changes _ _ _ g.0 _ refl (cached_within s g.0 p.0 (ap is_some is)) refl
        (drop_one (file_at s g.0).pages p.0);
    fills = λ h p t may has room is. unwritten _ _ _ refl refl;
    flushes = λ g p page t may is. changes _ _ _ g.0 _ refl (cached_within s g.0 p (ap is_some may.is)) refl
        (change_one (file_at s g.0).pages p under_write (λ x k. absurd cc));
    drops = λ kind end x may dropped. unwritten _ _ _ refl refl;
    fill_fails = λ end x c may live o. unwritten _ _ _ refl refl;
    fill_ends = λ end x b may live o. changes _ _ _ x.file _ refl (live_file end.serial.0 x may.is live) refl
        (put_one (file_at s x.file).pages x.page _ refl);
    flush_fails = λ end x c may live o. changes _ _ _ x.file _ refl (live_file end.serial.0 x may.is live) refl
        (change_one (file_at s x.file).pages x.page (after_write true) (λ v k. k));
    flush_ends = λ end x may live o. changes _ _ _ x.file _ refl (live_file end.serial.0 x may.is live) refl
        (change_one (file_at s x.file).pages x.page (after_write false) (λ v k. k));
    begins =
        λ h first last m may low. record {
          few =
              zero_more _ _ (begun_waiting s (handle_file s h.0) m.0 (new_sync s h.0 first.0 last.0)
              (valid h.0 may.opened)
              f);
        };
    starts = λ m y p page t is may given. record {
      few = let less = start_waiting s y p page may f in
          let same : started_by s (Act (event.SyncStep m) (reply.Job t)) f
          ≡ (if handle_file s y.handle == f then 1 else 0) =
          ap (λ o. if unwrap_or (option_map (λ (y : Sync). handle_file s y.handle == f) o) false then 1 else 0)
          is in omega arith;
    };
    waits = λ m y e p is pick first page. unwritten _ _ _ refl refl;
    over = λ m y r is pick first v. verdict m y r v;
    sync_drops = λ m y is. unwritten _ _ _ refl refl;
  }

  pub step_few : (e : Event) (r : Reply) (new : State) → Step s e r new → Few e r new
  step_few e r new step = by_cases s Few cases e r new step

-- ---- a step of the world

module _ (w : World) (plain : Plain) (k : Coupled w plain) (f : ℕ) where
  few : (e : Event) (r : Reply) (new : State) → Step w.core e r new
      → started_by w.core (Act e r) f + waiting new f ≤ waiting w.core f + tagged_by w.core (Act e r) f
  few e r new step = (step_few w.core f k.valid (live_file_of w plain k) e r new step).few

  move_few : (new : World) (move : Move) → WorldStep w move new
      → started_by w.core move f + waiting new.core f ≤ waiting w.core f + tagged_by w.core move f
  move_few new (Act e r) m = few e r new.core m.1.0
  move_few new (Call t fault effect) m = let same =
      ap (λ s. waiting s f) (calls w new t (finmap.get w.core.requests t) (finmap.get w.outcomes t) fault effect m) in
      omega arith
  move_few new (Finish t r) m = finished (finmap.get w.core.requests t) (finmap.get w.outcomes t) m
    where
      finished : (q : Option Request) (o : Option Outcome)
          → Ends w t q o r new → 0 + waiting new.core f ≤ waiting w.core f + 0
      finished (Some x) (Some call) h = let end : End =
          record { cache = w.core.name; kind = x.kind; serial = record { 0 = t }; block = record { 0 = x.block }; outcome = call } in
          few (event.End x.kind end) r new.core h.0
      finished (Some x) None h = absurd h
      finished None o h = absurd h

run_few : (run : Steps) (w : World) (plain : Plain) → Coupled w plain → Run w run → (f : ℕ)
    → total started_by w run f + waiting (last w run).core f ≤ waiting w.core f + total tagged_by w run f
run_few [] w plain k r f = omega arith
run_few (step ∷ steps) w plain k r f =
    let one = move_few w plain k f step.1 step.0 r.0 in
    let rest =
    run_few steps step.1 (plain_move plain step.0)
    (coupled w plain _ step.1 (plain_move plain step.0) (move_kept w plain k step.0 step.1 r.0)) r.1 f in
    omega arith

pub sync_writes_are_few : SyncWritesAreFew
sync_writes_are_few w run first r f =
    let all = run_few run w (files_seen w) (first_coupled w first) r f in
    let none : waiting w.core f ≡ 0 = ap (λ (s : State). waiting s f) first.adopts.core
    ∙ ap (λ (x : File). count_of is_towrite x.pages) (adopted_file w.core.sizes w.core.name first.catalog f) ∙ nothing in
    omega arith
  where
    none_pass : (es : List (ℕ × Page)) → passing (λ (x : Page). false) es ≡ 0
    none_pass [] = refl
    none_pass (e ∷ es) = let a = sum_by-cons (λ (x : ℕ × Page). cond {A = ℕ} false 1 0) e es in let b = none_pass es in
        omega arith

    nothing : count_of is_towrite (finmap.empty {X = Page} {R = nat_cmp}) ≡ 0
    nothing = let a = count_le is_towrite (λ (x : Page). false)
        (finmap.empty {X = Page} {R = nat_cmp}) (finmap.empty {X = Page} {R = nat_cmp})
        (λ q x e t. absurd (let b : finmap.get (finmap.empty {X = Page} {R = nat_cmp}) q ≡ None =
        finmap.get-empty nat_cmp q in let d : Some x ≡ None = sym e ∙ b in cc)) in
        let b = none_pass (finmap.entries (finmap.empty {X = Page} {R = nat_cmp})) in omega arith
