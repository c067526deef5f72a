-- How many pages of a range of a file its syncs have still to write, which are those with TOWRITE. As a sync of the range begins they
-- are no more than its DIRTY pages; each write that the sync starts takes one, and the end of a request adds none. Of any state.
use Rattle.std.proofs.Common.{◌≡◌, ◌≢◌, ℕ, ◌+◌, ◌≤◌, Bool, true, false, cond, eqb, eqb-true, eq-eqb, List, length}
use Rattle.std.proofs.Common.{get_or, refl}
use Rattle.std.proofs.Common.{ap, sym, subst, ◌∙◌, arith, inl, inr}
use Rattle.std.specs.Prelude.{◌&&◌, ◌||◌, Option, Some, None, is_some, option_map, unwrap_or, slice_set}
use Rattle.std.specs.FinMap as map
use Rattle.std.specs.FinMap.{FinMap}
use Rattle.std.specs.Ordering.{nat_cmp}
use Rattle.std.proofs.lemmas.List.{set_past}
use Rattle.pc_types.specs.Kinds.{is_flush}
use Rattle.pc_types.specs.Tags.{no_tags}
use Rattle.pc_types.specs.declared.ids.HandleId.{HandleId}
use Rattle.pc_types.specs.declared.ids.PageIndex.{PageIndex}
use Rattle.pc_types.specs.declared.ids.Serial.{Serial}
use Rattle.pc_types.specs.declared.ids.SyncId.{SyncId}
use Rattle.maps.proofs.Count.{count_of}
use Rattle.maps.proofs.MapLaws.{get-change_at}
use Rattle.maps.proofs.Maps.{get-each_value, get-insert_nat}
use Rattle.maps.specs.Maps.{change_at, each_value}
use Rattle.machine.specs.declared.event.Event.TheVariants as event
use Rattle.machine.specs.declared.event.Outcome.{Outcome}
use Rattle.machine.specs.declared.event.Outcome.TheVariants as outcome
use Rattle.machine.specs.declared.event.Reply.{Reply}
use Rattle.machine.specs.declared.event.Reply.TheVariants as reply
use Rattle.machine.specs.Changes.{after_write, ended, flush_failed, new_sync, request_ended, started}
use Rattle.machine.specs.Changes.{sync_pick, sync_stepped, to_write, under_write}
use Rattle.machine.specs.Sound.{Sound}
use Rattle.machine.specs.State.{State, File, Page, Request, Sync, file_at, first_awaited, handle_file, in_range, no_file, tags_of}
use Rattle.machine.specs.Step.{Step, SyncReply, SyncStepReply}
use Rattle.machine.specs.Tests.{start_tests, sync_tests}
use Rattle.machine.proofs.changes.StateLaws.{get_or-set}
use Rattle.machine.proofs.steps.Cases.{happened}
use Rattle.machine.proofs.steps.Choices.{and_true}
use Rattle.machine.proofs.steps.Ends.{of_end, own_end}
use Rattle.machine.proofs.steps.Passed.{may_start}
use Rattle.runs.specs.Syncing.{dirty_between}
use Rattle.runs.specs.World.{World, Finish, WorldStep}
use Rattle.runs.proofs.events.Lookups.{cached_within}
use Rattle.world.proofs.InFlight.{finish_step}
use Rattle.orderly.proofs.FileSteps.{within}
use Rattle.filesvc.proofs.Ranged.{Passes, ranged, ranged_dirty, ranged_le, ranged_lt}

abbrev is_waiting : Page → Bool
is_waiting page = page.tags.towrite

abbrev is_dirty : Page → Bool
is_dirty page = page.tags.dirty

no_more : (n : ℕ) → n ≤ n
no_more n = omega arith

module _ (first last : ℕ) where
  abbrev in_files : List File → ℕ → ℕ
  in_files fs f = count_of is_waiting (ranged first last (get_or fs f no_file).pages)

  abbrev pub waiting : State → ℕ → ℕ
  waiting s f = in_files s.files f

  -- one file changes
  one_file : (fs : List File) (g : ℕ) (file : File) → count_of is_waiting (ranged first last file.pages) ≤ in_files fs g → (f : ℕ)
      → in_files (slice_set fs g file) f ≤ in_files fs f
  one_file fs g file less f = elim (within g (length fs)) [
    | inl here ↦ subst (λ (x : File). count_of is_waiting (ranged first last x.pages) ≤ in_files fs f)
        (sym (get_or-set fs g f file no_file here)) (either (eqb f g) refl)
    | inr past ↦ subst (λ xs. in_files xs f ≤ in_files fs f) (sym (set_past fs g file past)) (no_more (in_files fs f))
  ]
    where
      either : (b : Bool) → eqb f g ≡ b
          → count_of is_waiting (ranged first last (cond b file (get_or fs f no_file)).pages) ≤ in_files fs f
      either true e = subst (λ k. count_of is_waiting (ranged first last file.pages) ≤ in_files fs k) (sym (eqb-true f g e)) less
      either false e = no_more (in_files fs f)

  -- ---- a request ends

  retagged : (m : FinMap nat_cmp Page) (p : ℕ) (g : Page → Page) → ((x : Page) → is_waiting (g x) ≡ is_waiting x)
      → count_of is_waiting (ranged first last (change_at p g m)) ≤ count_of is_waiting (ranged first last m)
  retagged m p g same = ranged_le first last is_waiting is_waiting (λ x. refl) (change_at p g m) m
      (λ q i. by q i (eqb q p) (map.get m q) refl (sym (get-change_at p g m q) ∙ i.is))
    where
      by : (q : ℕ) (i : Passes first last is_waiting (change_at p g m) q) (b : Bool) (o : Option Page) → map.get m q ≡ o
          → cond b (option_map g o) o ≡ Some i.page → Passes first last is_waiting m q
      by q i true (Some y) is k = record {
        within = i.within;
        page = y;
        is = is;
        passes = sym (same y) ∙ ap is_waiting (let e : g y ≡ i.page = cc in e) ∙ i.passes;
      }
      by q i true None is k = absurd cc
      by q i false (Some y) is k =
          record { within = i.within; page = y; is = is; passes = ap is_waiting (let e : y ≡ i.page = cc in e) ∙ i.passes }
      by q i false None is k = absurd cc

  untagged : (m : FinMap nat_cmp Page) (p : ℕ) (b : List ℕ)
      → count_of is_waiting (ranged first last (map.insert m p (record { bytes = b; tags = no_tags }))) ≤ count_of is_waiting (ranged first last m)
  untagged m p b =
      ranged_le first last is_waiting is_waiting (λ x. refl) (map.insert m p (record { bytes = b; tags = no_tags })) m
      (λ q i. by q i (eqb q p) (sym (get-insert_nat m p (record { bytes = b; tags = no_tags }) q) ∙ i.is))
    where
      by : (q : ℕ) (i : Passes first last is_waiting (map.insert m p (record { bytes = b; tags = no_tags })) q) (c : Bool)
          → cond c (Some (record { bytes = b; tags = no_tags })) (map.get m q) ≡ Some i.page → Passes first last is_waiting m q
      by q i true k =
          absurd (let same : record { bytes = b; tags = no_tags } ≡ i.page = cc in
          let no : false ≡ true = ap is_waiting same ∙ i.passes in cc)
      by q i false k = record { within = i.within; page = i.page; is = k; passes = i.passes }

  end_waits : (s : State) (t : ℕ) (x : Request) (o : Outcome) (r : Reply) (f : ℕ)
      → waiting (request_ended s t (Some x) o r) f ≤ waiting s f
  end_waits s t x o reply.Dropped f = no_more (waiting s f)
  end_waits s t x (outcome.Fault c) (reply.Failed d) f = by (is_flush x.kind)
    where
      by : (b : Bool) → waiting (cond b (flush_failed (ended s t) x c) (ended s t)) f ≤ waiting s f
      by true = one_file s.files x.file _ (retagged (file_at s x.file).pages x.page (after_write true) (λ y. refl)) f
      by false = no_more (waiting s f)
  end_waits s t x (outcome.Read b) reply.Filled f =
      one_file s.files x.file _ (untagged (file_at s x.file).pages x.page _) f
  end_waits s t x outcome.Written reply.Written f =
      one_file s.files x.file _ (retagged (file_at s x.file).pages x.page (after_write false) (λ y. refl)) f
  end_waits s t x o _ f = no_more (waiting s f)

  pub finish_waits : (w new : World) (t : ℕ) (r : Reply) → WorldStep w (Finish t r) new → (f : ℕ)
      → waiting new.core f ≤ waiting w.core f
  finish_waits w new t r m f =
      let e = finish_step w new t r m in
      elim (of_end w.core e.x.kind (own_end w.core t e.x e.call) r new.core e.step) [
        | inl a ↦ subst (λ s. waiting s f ≤ waiting w.core f) (sym a.2) (no_more (waiting w.core f))
        | inr a ↦ subst (λ s. waiting s f ≤ waiting w.core f) (sym a.is) (end_waits w.core t a.x e.call r f)
      ]

  -- ---- a sync's step starts a write

  starts : (m : FinMap nat_cmp Page) (p : ℕ) → Passes first last is_waiting m p
      → count_of is_waiting (ranged first last (change_at p under_write m)) + 1 ≤ count_of is_waiting (ranged first last m)
  starts m p tagged = ranged_lt first last is_waiting is_waiting (λ x. refl) (change_at p under_write m) m p tagged
      (λ q i. by q i (eqb q p) refl (map.get m q) refl (sym (get-change_at p under_write m q) ∙ i.is))
    where
      by : (q : ℕ) (i : Passes first last is_waiting (change_at p under_write m) q) (b : Bool) → eqb q p ≡ b → (o : Option Page)
          → map.get m q ≡ o → cond b (option_map under_write o) o ≡ Some i.page → (q ≢ p) × Passes first last is_waiting m q
      by q i true e (Some y) is k =
          absurd (let same : under_write y ≡ i.page = cc in let z : false ≡ true = ap is_waiting same ∙ i.passes in cc)
      by q i true e None is k = absurd cc
      by q i false e (Some y) is k = (
        λ same. let z : true ≡ false = sym (eq-eqb q p same) ∙ e in cc,
        record { within = i.within; page = y; is = is; passes = ap is_waiting (let e : y ≡ i.page = cc in e) ∙ i.passes },
      )
      by q i false e None is k = absurd cc

  start_takes : (s : State) (f p : ℕ) → Passes first last is_waiting (file_at s f).pages p
      → waiting (started s f p) f + 1 ≤ waiting s f
  start_takes s f p tagged =
      let here = cached_within s f p (ap is_some tagged.is) in
      subst (λ (x : File). count_of is_waiting (ranged first last x.pages) + 1 ≤ waiting s f)
      (sym (get_or-set s.files f f (record (file_at s f) { pages = change_at p under_write (file_at s f).pages }) no_file here
      ∙ ap (λ b. cond b (record (file_at s f) { pages = change_at p under_write (file_at s f).pages }) (file_at s f)) (eq-eqb f f refl)))
      (starts (file_at s f).pages p tagged)

-- of the file that the sync is of
pub step_takes : (s new : State) (n : SyncId) (y : Sync) (t : Serial) → map.get s.syncs n.0 ≡ Some y
    → Step s (event.SyncStep n) (reply.Job t) new
    → waiting y.first y.last new (handle_file s y.handle) + 1 ≤ waiting y.first y.last s (handle_file s y.handle)
step_takes s new n y t is step =
    let a = happened s (event.SyncStep n) (reply.Job t) new step refl (λ n o e. cc) in
    let now : new ≡ sync_stepped s n.0 (Some y) (reply.Job t) =
    a.is ∙ ap (λ o. sync_stepped s n.0 o (reply.Job t)) is in
    let untested : sync_tests s (Some y) ≡ None = subst (λ o. sync_tests s o ≡ None) is a.untested in
    let may : SyncStepReply s (Some y) (reply.Job t) = subst (λ o. SyncStepReply s o (reply.Job t)) is a.may in
    subst (λ x. waiting y.first y.last x (handle_file s y.handle) + 1 ≤ waiting y.first y.last s (handle_file s y.handle)) (sym now)
    (by (sync_pick s y) refl untested may)
  where
    f : ℕ
    f = handle_file s y.handle

    none : (e : Option (ℕ × Request)) → SyncReply s y None e (reply.Job t) → ⊥
    none None r = r
    none (Some e) r = r

    by : (o : Option ℕ) → sync_pick s y ≡ o → start_tests s f o ≡ None
        → SyncReply s y o (first_awaited s y) (reply.Job t)
        → waiting y.first y.last (started s f (unwrap_or o 0)) f + 1 ≤ waiting y.first y.last s f
    by (Some p) pick passed r =
        let m = may_start s y p pick passed in
        let left = and_true (m.0.tags.towrite && in_range y p) _ m.1.left in
        let both = and_true m.0.tags.towrite (in_range y p) left.0 in
        start_takes y.first y.last s f p (record { within = both.1; page = m.0; is = m.1.is; passes = both.0 })
    by None pick passed r = absurd (none (first_awaited s y) r)

-- ---- a sync begins

begins : (y : Sync) (m : FinMap nat_cmp Page) → ((q : ℕ) (x : Page) → map.get m q ≡ Some x → is_waiting x ≡ true → is_dirty x ≡ true)
    → count_of is_waiting (ranged y.first y.last (each_value (to_write y) m)) ≤ count_of is_dirty (ranged y.first y.last m)
begins y m dirty = ranged_le y.first y.last is_waiting is_dirty (λ x. refl) (each_value (to_write y) m) m
    (λ q i. by q i (map.get m q) refl (sym (get-each_value (to_write y) m q) ∙ i.is))
  where
    either : (q : ℕ) (x : Page) → map.get m q ≡ Some x → (a b c : Bool) → a ≡ is_waiting x → b ≡ is_dirty x
        → (a || b && c) ≡ true → is_dirty x ≡ true
    either q x is true b c e f k = dirty q x is (sym e)
    either q x is false true c e f k = sym f
    either q x is false false c e f k = absurd cc

    by : (q : ℕ) (i : Passes y.first y.last is_waiting (each_value (to_write y) m) q) (o : Option Page) → map.get m q ≡ o
        → option_map (to_write y q) o ≡ Some i.page → Passes y.first y.last is_dirty m q
    by q i (Some z) is k = record {
      within = i.within;
      page = z;
      is = is;
      passes = either q z is (is_waiting z) (is_dirty z) (in_range y q) refl refl
          (ap is_waiting (let e : to_write y q z ≡ i.page = cc in e) ∙ i.passes);
    }
    by q i None is k = absurd cc

-- of its file no more pages of its range are to be written then than were DIRTY
pub begin_tags : (s new : State) (h : HandleId) (first last : PageIndex) (m : SyncId) → Sound s
    → Step s (event.SyncBegin h first last) (reply.Sync m) new
    → waiting first.0 last.0 new (handle_file s h.0) ≤ dirty_between (file_at s (handle_file s h.0)) first.0 last.0
begin_tags s new h first last m ok step =
    let a = happened s (event.SyncBegin h first last) (reply.Sync m) new step refl (λ n o e. cc) in
    subst (λ k. waiting first.0 last.0 new f ≤ k) (ranged_dirty first.0 last.0 (file_at s f))
    (subst (λ x. waiting first.0 last.0 x f ≤ count_of is_dirty (ranged first.0 last.0 (file_at s f).pages)) (sym a.is)
    (elim (within f (length s.files)) [
      | inl here ↦ subst (λ (x : File). count_of is_waiting (ranged first.0 last.0 x.pages)
          ≤ count_of is_dirty (ranged first.0 last.0 (file_at s f).pages))
          (sym (get_or-set s.files f f after no_file here ∙ ap (λ b. cond b after (file_at s f)) (eq-eqb f f refl)))
          (begins (new_sync s h.0 first.0 last.0) (file_at s f).pages tagged)
      | inr past ↦ subst (λ xs. in_files first.0 last.0 xs f ≤ count_of is_dirty (ranged first.0 last.0 (file_at s f).pages))
          (sym (set_past s.files f after past))
          (ranged_le first.0 last.0 is_waiting is_dirty (λ x. refl) (file_at s f).pages (file_at s f).pages
          (λ q i. record { within = i.within; page = i.page; is = i.is; passes = tagged q i.page i.is i.passes }))
    ]))
  where
    f : ℕ
    f = handle_file s h.0

    after : File
    after = record (file_at s f) { pages = each_value (to_write (new_sync s h.0 first.0 last.0)) (file_at s f).pages }

    tagged : (q : ℕ) (x : Page) → map.get (file_at s f).pages q ≡ Some x → is_waiting x ≡ true → is_dirty x ≡ true
    tagged q x is t =
        sym (ap (λ o. (tags_of o).dirty) is) ∙ ok.towrite_dirty f q (ap (λ o. (tags_of o).towrite) is ∙ t)
