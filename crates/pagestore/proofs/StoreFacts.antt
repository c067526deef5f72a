-- The pages' store keeps what it keeps, as an entry is made, changed, taken away.
use Rattle.std.proofs.Common.{◌≡◌, ℕ, zero, suc, ◌+◌, ◌-◌, ◌<◌, ◌≤◌, Bool, true, false, cond, not, ltb, eqb, eqb-true}
use Rattle.std.proofs.Common.{eq-eqb, List, [], ◌∷◌, ◌++◌, length, refl, ap, sym, subst, ◌∙◌, arith, map, length-append}
use Rattle.std.proofs.Common.{length-drop}
use Rattle.std.specs.Prelude.{Option, Some, None, is_some, is_none, option_map, ◌&&◌, slice_set, unwrap_or, replicate}
use Rattle.std.specs.Prelude.{sum_by, count_by, take, drop, slice_index_or, All}
use Rattle.std.specs.Option.{option_and_then}
use Rattle.std.specs.Int.{from_bool}
use borrow.Rule.Slice.PartMut.{put_mid}
use Rattle.std.specs.Ordering.{nat_cmp}
use Rattle.std.specs.FinMap as finmap
use Rattle.std.specs.FinMap.{FinMap, get-empty, len-empty}
use Rattle.std.proofs.lemmas.Bool.{false≢true}
use Rattle.std.proofs.lemmas.Bool.Decides.{nat_tests}
use Rattle.std.proofs.lemmas.List.{length-set, length-replicate, length-map, get_or_past, drop-drop}
use Rattle.std.proofs.lemmas.List.{length-take, append_assoc, set-get_or}
use Rattle.std.proofs.lemmas.List.Elements.{All-set}
use Rattle.std.proofs.lemmas.List.Folds.{sum_by-replicate}
use Rattle.std.proofs.lemmas.List.Sums.{sum_by-set, sum_by-cons, sum_by_push}
use Rattle.pc_types.specs.Tags.{TagSet, no_tags}
use Rattle.pc_types.specs.declared.ids.FileId.{FileId}
use Rattle.pc_types.specs.declared.ids.PageIndex.{PageIndex}
use Rattle.pc_types.specs.declared.limits.TheConstants.{MAX_FRAMES}
use Rattle.frames.specs.Table.{Table, IsSound, owner_of, is_taken, is_aside, taken, given, accessed, free_frames}
use Rattle.frames.specs.Table.{new_table, put_back}
use Rattle.frames.proofs.SoundLemmas.{sound_accessed, sound_aside, sound_given, sound_laid, sound_new, sound_taken}
use Rattle.frames.specs.Rows.{row_at}
use Rattle.maps.specs.Maps.{change_at, put_some}
use Rattle.mapping.specs.Pages.{Mapped, untagged}
use Rattle.mapping.proofs.MapLemmas as entries
use Rattle.mapping.proofs.MapLemmas.{count_insert, count_remove, count-le-len, remove_absent, len_insert_new}
use Rattle.mapping.proofs.MapLemmas.{len_insert_old, len_remove_old}
use Rattle.pagestore.specs.declared.kept.KeptFile.{KeptFile}
use Rattle.machine.specs.State.{File, Page, no_file, dirty_in}
use Rattle.pagestore.specs.Store.{the_page, none_kept, is_uptodate, awaits, page_of, each_seen, file_of, kept_at}
use Rattle.pagestore.specs.Store.{entry_at, lists_of, Store, store_of, stored_at, stored_page, with_pages, with_lists}
use Rattle.pagestore.specs.Store.{with_entry, put_at, IsStore, is_untagged, is_idle_entry}
use Rattle.machine.proofs.changes.StateLaws.{get_or-set}
use Rattle.maps.proofs.MapLaws.{no_entries}
use Rattle.pagestore.proofs.StoreEntries.{len-each_seen}
use Rattle.pagestore.proofs.StoreLaws.{apart, stored-kept, seen_at, Alike, with_kept, entry-set, seen-entry, seen-same}
use Rattle.pagestore.proofs.StoreLaws.{seen-file, entry-kept, entry-push, seen-push, page_seen, none_seen, waits_at}
use Rattle.pagestore.proofs.StoreLaws.{entry_page}

abbrev pub Owner : Type 0
Owner = FileId × PageIndex

-- ---- options

some_is : {X : Type 0} (x y : X) → Some x ≡ Some y → x ≡ y
some_is {X} x y e = ap (λ (o : Option X). unwrap_or o x) e

none_not_some : {X : Type 0} (x : X) → ◌≡◌ {A = Option X} None (Some x) → ⊥
none_not_some {X} x e = false≢true (ap (λ (o : Option X). is_some o) e)

-- ---- owners

pub same_owner : (g q f p : ℕ)
    → ◌≡◌ {A = Option Owner} (Some (record { 0 = g }, record { 0 = q })) (Some (record { 0 = f }, record { 0 = p }))
    → (g ≡ f) × (q ≡ p)
same_owner g q f p e =
    let d : Owner = (record { 0 = g }, record { 0 = q }) in
    (ap (λ (o : Option Owner). (unwrap_or o d).0.0) e, ap (λ (o : Option Owner). (unwrap_or o d).1.0) e)

is_below : (m n : ℕ) → ltb m n ≡ true → m < n
is_below m n e = grind (arith, nat_tests)

not_below : (m n : ℕ) → ltb m n ≡ false → n ≤ m
not_below m n e = grind (arith, nat_tests)

pub within_owned : (t : Table) (fr : ℕ) (o : Owner) → owner_of t fr ≡ Some o → fr < length t.owners
within_owned t fr o e =
    elim (ltb fr (length t.owners)) as (λ b. ltb fr (length t.owners) ≡ b → fr < length t.owners) [
      | true ↦ λ h. is_below fr (length t.owners) h
      | false ↦ λ h. absurd (false≢true
          (ap (λ (x : Option Owner). is_some x) (sym (get_or_past t.owners fr None (not_below fr (length t.owners) h))
          ∙ e)))
    ] refl

pub within_taken : (t : Table) (fr : ℕ) → is_taken t fr ≡ true → fr < length t.owners
within_taken t fr taken = go (owner_of t fr) refl
  where
    go : (o : Option Owner) → owner_of t fr ≡ o → fr < length t.owners
    go None e = absurd (false≢true (sym (ap (λ (x : Option Owner). is_some x) e) ∙ taken))
    go (Some o) e = within_owned t fr o e

owned_is_taken : (t : Table) (fr : ℕ) (o : Owner) → owner_of t fr ≡ Some o → is_taken t fr ≡ true
owned_is_taken t fr o e = ap (λ (x : Option Owner). is_some x) e

none_at : (t : Table) (fr : ℕ) → is_taken t fr ≡ false → owner_of t fr ≡ None
none_at t fr e = elim (owner_of t fr) as (λ (o : Option Owner). is_some o ≡ false → o ≡ None)
    [ None ↦ λ _. refl | Some o ↦ λ e. absurd (false≢true (sym e)) ] e

not_free : (t : Table) (g fr : ℕ) (o : Owner) → owner_of t g ≡ Some o → is_taken t fr ≡ false → eqb g fr ≡ false
not_free t g fr o e free =
    elim (eqb g fr) as (λ b. eqb g fr ≡ b → b ≡ false) [
      | true ↦ λ s. absurd (false≢true (sym free ∙ ap (is_taken t) (sym (eqb-true g fr s))
          ∙ ap (λ (x : Option Owner). is_some x) e))
      | false ↦ λ s. refl
    ] refl

owner-set : (t : Table) (fr g : ℕ) (o : Option Owner) → fr < length t.owners
    → slice_index_or (slice_set t.owners fr o) g None ≡ cond (eqb g fr) o (owner_of t g)
owner-set t fr g o h = get_or-set t.owners fr g o None h

row-set : (t : Table) (fr g : ℕ) (row : List ℕ) → fr < length t.bytes
    → row_at (slice_set t.bytes fr row) g ≡ cond (eqb g fr) row (row_at t.bytes g)
row-set t fr g row h = get_or-set t.bytes fr g row [] h

-- the flag of another frame
flag-set : (up : List Bool) (fr g : ℕ) (b : Bool) → fr < length up
    → slice_index_or (slice_set up fr b) g false ≡ cond (eqb g fr) b (slice_index_or up g false)
flag-set up fr g b h = get_or-set up fr g b false h

dirty_most : (t : Table) (up : List Bool) (files : List KeptFile)
    → sum_by dirty_in (map (file_of t up) files) ≤ sum_by (λ (k : KeptFile). finmap.len k.mapping.pages) files
dirty_most t up [] = omega arith
dirty_most t up (k ∷ files) =
    let here = count-le-len (λ (e : ℕ × Page). e.1.tags.dirty) (file_of t up k).pages in
    omega (
      arith,
      dirty_most t up files,
      here,
      len-each_seen (page_of t up) k.mapping.pages,
      sum_by-cons dirty_in (file_of t up k) (map (file_of t up) files),
      sum_by-cons (λ (k : KeptFile). finmap.len k.mapping.pages) k files,
    )

module _ (t : Table) (up : List Bool) (files : List KeptFile) (dirty : ℕ) (s : IsStore t up files dirty) where
  -- two entries with one frame are one entry
  other_frame : (g q f p : ℕ) (y x : Mapped) → entry_at files g q ≡ Some y → entry_at files f p ≡ Some x
      → (g ≡ f → q ≡ p → ⊥) → eqb y.frame x.frame ≡ false
  other_frame g q f p y x e d n =
      elim (eqb y.frame x.frame) as (λ b. eqb y.frame x.frame ≡ b → b ≡ false) [
        | true ↦ λ z. let both =
            same_owner g q f p (sym (s.owned g q y e) ∙ ap (owner_of t) (eqb-true y.frame x.frame z)
            ∙ s.owned f p x d) in absurd (n both.0 both.1)
        | false ↦ λ z. refl
      ] refl

  pub page_taken : (f p : ℕ) (x : Mapped) → entry_at files f p ≡ Some x → is_taken t x.frame ≡ true
  page_taken f p x e = owned_is_taken t x.frame _ (s.owned f p x e)

  pub page_within : (f p : ℕ) (x : Mapped) → entry_at files f p ≡ Some x → x.frame < length t.owners
  page_within f p x e = within_owned t x.frame _ (s.owned f p x e)

  pub page_size : (f p : ℕ) (x : Mapped) → entry_at files f p ≡ Some x → length (row_at t.bytes x.frame) ≡ t.size
  page_size f p x e = s.sized x.frame [] (let h = page_within f p x e in omega (arith, s.rows))

  pub few_dirty_pages : dirty ≤ MAX_FRAMES
  few_dirty_pages = omega (arith, dirty_most t up files, s.counted, s.few, s.dirty_is)

-- ---- counts over a map of which one value changes

module _ {X : Type 0} (m : FinMap nat_cmp X) (k : ℕ) where
  abbrev here : Option X → ℕ
  here o = cond (is_some o) 1 0

  len-put_to : (o was : Option X) → finmap.get m k ≡ was → finmap.len (put_at k o m) + here was ≡ finmap.len m + here o
  len-put_to None None e = let same = ap finmap.len (remove_absent m k e) in omega (arith, same)
  len-put_to None (Some x) e = omega (arith, len_remove_old m k x e)
  len-put_to (Some v) None e = omega (arith, len_insert_new m k v e)
  len-put_to (Some v) (Some x) e = omega (arith, len_insert_old m k v x e)

  pub len-put : (o : Option X) → finmap.len (put_at k o m) + here (finmap.get m k) ≡ finmap.len m + here o
  len-put o = len-put_to o (finmap.get m k) refl

  count-put_to : (test : ℕ × X → Bool) (o was : Option X) → finmap.get m k ≡ was
      → count_by test (finmap.entries (put_at k o m)) + entries.taken test k was ≡ count_by test (finmap.entries m)
      + entries.taken test k o
  count-put_to test None None e = let same = ap (λ (n : FinMap nat_cmp X). count_by test (finmap.entries n))
      (remove_absent m k e) in omega (arith, same)
  count-put_to test None (Some x) e = omega (arith, count_remove test m k x e)
  count-put_to test (Some v) was e =
      subst (λ o. count_by test (finmap.entries (finmap.insert m k v)) + entries.taken test k o
      ≡ count_by test (finmap.entries m) + entries.taken test k (Some v)) e (count_insert test m k v)

  pub count-put : (test : ℕ × X → Bool) (o : Option X)
      → count_by test (finmap.entries (put_at k o m)) + entries.taken test k (finmap.get m k)
      ≡ count_by test (finmap.entries m) + entries.taken test k o
  count-put test o = count-put_to test o (finmap.get m k) refl

-- ---- the frames that are set aside

still_aside : (flags : List Bool) (i j : ℕ) → slice_index_or (slice_set flags i false) j false ≡ true
    → slice_index_or flags j false ≡ true
still_aside [] i j h = h
still_aside (b ∷ flags) zero zero h = absurd (false≢true h)
still_aside (b ∷ flags) zero (suc j) h = h
still_aside (b ∷ flags) (suc i) zero h = h
still_aside (b ∷ flags) (suc i) (suc j) h = still_aside flags i j h

pub not_aside : (flags : List Bool) (i : ℕ) → slice_index_or (slice_set flags i false) i false ≡ false
not_aside [] i = refl
not_aside (b ∷ flags) zero = refl
not_aside (b ∷ flags) (suc i) = not_aside flags i

-- flags that are set for busy pages alone
pub aside_store : (t : Table) (up : List Bool) (files : List KeptFile) (dirty : ℕ) (flags : List Bool)
    → IsStore t up files dirty → IsSound (record t { aside = flags })
    → ((f p : ℕ) (x : Mapped) → entry_at files f p ≡ Some x → slice_index_or flags x.frame false ≡ true
    → is_idle_entry up (Some x) ≡ false) → IsStore (record t { aside = flags }) up files dirty
aside_store t up files dirty flags s sound busy =
    record {
      sound = sound;
      owned = s.owned;
      bare = s.bare;
      busy = busy;
      counted = s.counted;
      sized = s.sized;
      rows = s.rows;
      flags = s.flags;
      few = s.few;
      dirty_is = s.dirty_is;
    }

-- a frame is set aside no more
pub back_store : (t : Table) (up : List Bool) (files : List KeptFile) (dirty fr : ℕ) → IsStore t up files dirty
    → IsStore (put_back t fr) up files dirty
back_store t up files dirty fr s = aside_store t up files dirty (slice_set t.aside fr false) s
    (sound_aside t s.sound (slice_set t.aside fr false) (length-set t.aside fr false ∙ s.sound.asides))
    (λ f p x e aside. s.busy f p x e (still_aside t.aside fr x.frame aside))

-- ---- one entry and the frames change

-- 1 for a page that is DIRTY
abbrev pub dirty_one : Option Page → ℕ
dirty_one None = 0
dirty_one (Some page) = cond page.tags.dirty 1 0

dirty_taken : (p : ℕ) (o : Option Page) → entries.taken (λ (e : ℕ × Page). e.1.tags.dirty) p o ≡ dirty_one o
dirty_taken p None = refl
dirty_taken p (Some page) = refl

both_same : (g q f p : ℕ) → (eqb g f && eqb q p) ≡ true → (g ≡ f) × (q ≡ p)
both_same g q f p e = elim (eqb g f) as (λ b. eqb g f ≡ b → (b && eqb q p) ≡ true → (g ≡ f) × (q ≡ p)) [
  | true ↦ λ s d. (eqb-true g f s, eqb-true q p d)
  | false ↦ λ s d. absurd (false≢true d)
] refl e

module _ (t u : Table) (up vp : List Bool) (files : List KeptFile) (dirty f p : ℕ) (s : IsStore t up files dirty)
    (here : f < length files) (alike : Alike t u up vp files f p) (size : u.size ≡ t.size) where
  module _ (o : Option Mapped) where
    abbrev k : KeptFile
    k = with_kept (kept_at files f) p o

    now_at : (g q : ℕ) (y : Mapped) (b : Bool) → (eqb g f && eqb q p) ≡ b → (P : Type 0)
        → cond b o (entry_at files g q) ≡ Some y → (g ≡ f → q ≡ p → o ≡ Some y → P)
        → ((g ≡ f → q ≡ p → ⊥) → entry_at files g q ≡ Some y → P) → P
    now_at g q y true same P e new old = let both = both_same g q f p same in new both.0 both.1 e
    now_at g q y false same P e new old = old (apart g q f p same) e

    at_entry : (g q : ℕ) (y : Mapped) → entry_at (slice_set files f k) g q ≡ Some y → (P : Type 0)
        → (g ≡ f → q ≡ p → o ≡ Some y → P) → ((g ≡ f → q ≡ p → ⊥) → entry_at files g q ≡ Some y → P) → P
    at_entry g q y e P new old = now_at g q y (eqb g f && eqb q p) refl P (sym (entry-set files f p o here g q) ∙ e) new
        old

    dirty_now : sum_by dirty_in (map (file_of u vp) (slice_set files f k))
        + dirty_one (stored_page (store_of t up files) f p) ≡ sum_by dirty_in (map (file_of t up) files)
        + dirty_one (option_and_then (page_of u vp) o)
    dirty_now =
        let fs = map (file_of t up) files in
        let page = option_and_then (page_of u vp) o in
        let file : File =
        record (stored_at (store_of t up files) f)
        { pages = put_at p page (stored_at (store_of t up files) f).pages } in
        let seen : sum_by dirty_in (map (file_of u vp) (slice_set files f k)) ≡ sum_by dirty_in (slice_set fs f file) =
        ap (λ (s : Store). sum_by dirty_in s.files) (seen-entry t u up vp files f p size here alike o) in
        let sum = sum_by-set dirty_in fs f file no_file (omega (arith, here, length-map files (file_of t up))) in
        let count = count-put (stored_at (store_of t up files) f).pages p (λ (e : ℕ × Page). e.1.tags.dirty) page in
        omega (arith, seen, sum, count, dirty_taken p page, dirty_taken p (stored_page (store_of t up files) f p))

  module _ (others : (g q : ℕ) (y : Mapped) → (g ≡ f → q ≡ p → ⊥) → entry_at files g q ≡ Some y
      → owner_of u y.frame ≡ Some (record { 0 = g }, record { 0 = q })) (owners : length u.owners ≡ length t.owners)
      (bytes : length u.bytes ≡ length t.bytes) (sized : All (λ (row : List ℕ). length row ≡ u.size) u.bytes)
      (flags : length vp ≡ length up) (asides : (g : ℕ) → is_aside u g ≡ true → is_aside t g ≡ true)
      (sound : IsSound u) where
    pub store_changed : (o : Option Mapped) (now : ℕ)
        → ((y : Mapped) → o ≡ Some y → owner_of u y.frame ≡ Some (record { 0 = f }, record { 0 = p }))
        → ((y : Mapped) → o ≡ Some y → is_uptodate vp y ≡ false → y.tags ≡ no_tags)
        → ((y : Mapped) → o ≡ Some y → is_aside u y.frame ≡ true → is_idle_entry vp (Some y) ≡ false)
        → cond (is_some o) 1 0 + free_frames u ≡ cond (is_some (entry_at files f p)) 1 0 + free_frames t
        → now + dirty_one (stored_page (store_of t up files) f p) ≡ dirty
        + dirty_one (option_and_then (page_of u vp) o)
        → IsStore u vp (slice_set files f (with_kept (kept_at files f) p o)) now
    store_changed o now own tags quiet free marks =
        record {
          sound = sound;
          owned = λ g q y e. at_entry o g q y e (owner_of u y.frame ≡ Some (record { 0 = g }, record { 0 = q }))
              (λ a b d. own y d ∙ (λ i. let x : Option Owner = Some (record { 0 = sym a i }, record { 0 = sym b i }) in
              x))
              (λ n d. others g q y n d);
          bare = λ g q y e waits. at_entry o g q y e (y.tags ≡ no_tags) (λ a b d. tags y d waits)
              (λ n d. s.bare g q y d (sym (alike.flags g q y n d) ∙ waits));
          busy = λ g q y e aside. at_entry o g q y e (is_idle_entry vp (Some y) ≡ false) (λ a b d. quiet y d aside)
              (λ n d. ap (λ b. b && is_untagged y.tags) (alike.flags g q y n d)
              ∙ s.busy g q y d (asides y.frame aside));
          counted =
              omega (
                arith,
                sum_by-set (λ (k : KeptFile). finmap.len k.mapping.pages) files f (k o) none_kept here,
                len-put (kept_at files f).mapping.pages p o,
                free,
                s.counted,
                owners,
              );
          sized = sized;
          rows = bytes ∙ s.rows ∙ sym owners;
          flags = flags ∙ s.flags ∙ sym owners;
          few = omega (arith, s.few, owners);
          dirty_is = omega (arith, dirty_now o, marks, s.dirty_is);
        }

-- the frames change, and no entry
pub store_same : (t u : Table) (up : List Bool) (files : List KeptFile) (dirty : ℕ) → IsStore t up files dirty
    → ((g : ℕ) → owner_of u g ≡ owner_of t g) → length u.owners ≡ length t.owners → length u.bytes ≡ length t.bytes
    → All (λ (row : List ℕ). length row ≡ u.size) u.bytes → free_frames u ≡ free_frames t
    → ((g : ℕ) → is_aside u g ≡ true → is_aside t g ≡ true)
    → store_of u up files ≡ with_lists (store_of t up files) (lists_of u) → IsSound u → IsStore u up files dirty
store_same t u up files dirty s same owners bytes sized free asides seen sound =
    record {
      sound = sound;
      owned = λ f p x e. same x.frame ∙ s.owned f p x e;
      bare = s.bare;
      busy = λ f p x e aside. s.busy f p x e (asides x.frame aside);
      counted = omega (arith, s.counted, owners, free);
      sized = sized;
      rows = bytes ∙ s.rows ∙ sym owners;
      flags = s.flags ∙ sym owners;
      few = omega (arith, s.few, owners);
      dirty_is = s.dirty_is ∙ ap (λ (s : Store). sum_by dirty_in s.files) (sym seen);
    }

-- ---- how many frames are free

free-taken : (t : Table) (fr : ℕ) (o : Owner) → is_taken t fr ≡ false → fr < length t.owners
    → free_frames (taken t fr o) + 1 ≡ free_frames t
free-taken t fr o free h =
    let one = sum_by-set (λ (x : Option Owner). cond (is_none x) 1 0) t.owners fr (Some o) None h in
    let was : ◌≡◌ {A = ℕ} (cond (is_none (owner_of t fr)) 1 0) 1 =
    ap (λ (x : Option Owner). cond (is_none x) 1 0) (none_at t fr free) in
    omega (arith, one, was)

pub free-given : (t : Table) (fr : ℕ) (o : Owner) → owner_of t fr ≡ Some o
    → free_frames (given t fr) ≡ free_frames t + 1
free-given t fr o own =
    let one = sum_by-set (λ (x : Option Owner). cond (is_none x) 1 0) t.owners fr None None (within_owned t fr o own) in
    let was : ◌≡◌ {A = ℕ} (cond (is_none (owner_of t fr)) 1 0) 0 =
    ap (λ (x : Option Owner). cond (is_none x) 1 0) own in
    omega (arith, one, was)

-- ---- an entry is made, and its frame waits for the page's bytes

module _ (t : Table) (up : List Bool) (files : List KeptFile) (dirty f p fr : ℕ) (s : IsStore t up files dirty)
    (free : is_taken t fr ≡ false) (within : fr < length t.owners) where
  abbrev pub u : Table
  u = taken t fr (record { 0 = f }, record { 0 = p })

  owner_now : (g : ℕ) → owner_of u g ≡ cond (eqb g fr) (Some (record { 0 = f }, record { 0 = p })) (owner_of t g)
  owner_now g = owner-set t fr g (Some (record { 0 = f }, record { 0 = p })) within

  own : owner_of u fr ≡ Some (record { 0 = f }, record { 0 = p })
  own = owner_now fr ∙ ap (λ b. cond b (Some (record { 0 = f }, record { 0 = p })) (owner_of t fr)) (eq-eqb fr fr refl)

  owner_kept : (g q : ℕ) (y : Mapped) → entry_at files g q ≡ Some y
      → owner_of u y.frame ≡ Some (record { 0 = g }, record { 0 = q })
  owner_kept g q y e = owner_now y.frame
      ∙ ap (λ b. cond b (Some (record { 0 = f }, record { 0 = p })) (owner_of t y.frame))
      (not_free t y.frame fr _ (s.owned g q y e) free) ∙ s.owned g q y e

  same_owners : length u.owners ≡ length t.owners
  same_owners = length-set t.owners fr (Some (record { 0 = f }, record { 0 = p }))

  less : free_frames u + 1 ≡ free_frames t
  less = free-taken t fr (record { 0 = f }, record { 0 = p }) free within

  entered_sound : IsSound u
  entered_sound = sound_taken t s.sound s.few fr (record { 0 = f }, record { 0 = p }) within free

  pub flag_within : fr < length up
  flag_within = omega (arith, within, s.flags)

  module _ (here : f < length files) (absent : entry_at files f p ≡ None) where
    abbrev vp : List Bool
    vp = slice_set up fr false

    flag_now : is_uptodate vp (untagged fr) ≡ false
    flag_now = flag-set up fr fr false flag_within
        ∙ ap (λ b. cond b false (slice_index_or up fr false)) (eq-eqb fr fr refl)

    flag_kept : (g q : ℕ) (y : Mapped) → entry_at files g q ≡ Some y → is_uptodate vp y ≡ is_uptodate up y
    flag_kept g q y e = flag-set up fr y.frame false flag_within
        ∙ ap (λ b. cond b false (is_uptodate up y)) (not_free t y.frame fr _ (s.owned g q y e) free)

    alike : Alike t u up vp files f p
    alike = record { rows = λ g q y n e. refl; flags = λ g q y n e. flag_kept g q y e }

    none_before : stored_page (store_of t up files) f p ≡ None
    none_before = seen_at t up files f p ∙ ap (option_and_then (page_of t up)) absent

    none_now : page_of u vp (untagged fr) ≡ None
    none_now = ap (λ b. cond b (Some (let page : Page = record { bytes = row_at t.bytes fr; tags = no_tags } in page)) None)
        flag_now

    pub entered_store : IsStore u vp (slice_set files f (with_kept (kept_at files f) p (Some (untagged fr)))) dirty
    entered_store =
        let gone : ◌≡◌ {A = ℕ} (cond (is_some (entry_at files f p)) 1 0) 0 =
        ap (λ (o : Option Mapped). cond (is_some o) 1 0) absent in
        store_changed t u up vp files dirty f p s here alike refl (λ g q y n e. owner_kept g q y e) same_owners
        refl s.sized (length-set up fr false) (λ g aside. still_aside t.aside fr g aside) entered_sound
        (Some (untagged fr)) dirty
        (λ y e. ap (λ (y : Mapped). owner_of u y.frame) (sym (some_is (untagged fr) y e)) ∙ own)
        (λ y e waits. ap (λ (y : Mapped). y.tags) (sym (some_is (untagged fr) y e)))
        (λ y e aside. absurd (false≢true (sym (not_aside t.aside fr)
        ∙ ap (λ (y : Mapped). is_aside u y.frame) (some_is (untagged fr) y e) ∙ aside)))
        (omega (arith, less, gone))
        (omega (arith, ap dirty_one none_before, ap dirty_one none_now))

    pub entered_seen : store_of u vp (slice_set files f (with_kept (kept_at files f) p (Some (untagged fr))))
        ≡ with_lists (with_entry (store_of t up files) f p None true (free_frames t - 1)) (lists_of u)
    entered_seen =
        let fewer : free_frames u ≡ free_frames t - 1 = omega (arith, less) in
        seen-entry t u up vp files f p refl here alike (Some (untagged fr))
        ∙ (λ i. with_lists (with_entry (store_of t up files) f p (none_now i) (not (flag_now i)) (fewer i))
        (lists_of u))

  -- ---- and the frame is given back, since there is no memory for the entry

  abbrev pub v : Table
  v = given u fr

  owner_back : (g : ℕ) (b : Bool) → eqb g fr ≡ b
      → cond b None (cond b (Some (record { 0 = f }, record { 0 = p })) (owner_of t g)) ≡ owner_of t g
  owner_back g true e = sym (ap (owner_of t) (eqb-true g fr e) ∙ none_at t fr free)
  owner_back g false e = refl

  owner_again : (g : ℕ) → owner_of v g ≡ owner_of t g
  owner_again g = owner-set u fr g None (omega (arith, within, same_owners)) ∙ ap (cond (eqb g fr) None) (owner_now g)
      ∙ owner_back g (eqb g fr) refl

  free_again : free_frames v ≡ free_frames t
  free_again = free-given u fr _ own ∙ less

  pub unmade_seen : store_of v up files ≡ with_lists (store_of t up files) (lists_of v)
  unmade_seen = seen-same t v up up files refl free_again (λ g q y e. refl) (λ g q y e. refl)

  pub unmade_store : IsStore v up files dirty
  unmade_store = store_same t v up files dirty s owner_again (length-set u.owners fr None ∙ same_owners) refl
      s.sized free_again (λ g aside. still_aside t.aside fr g aside) unmade_seen
      (sound_given u entered_sound (omega (arith, same_owners, s.few)) fr (omega (arith, within, same_owners)))

-- ---- an entry goes, or changes

module _ (t : Table) (up : List Bool) (files : List KeptFile) (dirty f p : ℕ) (x : Mapped)
    (s : IsStore t up files dirty) (here : f < length files) (there : entry_at files f p ≡ Some x) where
  less_one : free_frames (given t x.frame) ≡ free_frames t + 1
  less_one = free-given t x.frame _ (s.owned f p x there)

  one_there : ◌≡◌ {A = ℕ} (cond (is_some (entry_at files f p)) 1 0) 1
  one_there = ap (λ (o : Option Mapped). cond (is_some o) 1 0) there

  -- the entry's DIRTY tag is counted
  tag_counts : cond x.tags.dirty 1 0 ≡ dirty_one (stored_page (store_of t up files) f p)
  tag_counts =
      elim (is_uptodate up x) as (λ b. is_uptodate up x ≡ b
      → ◌≡◌ {A = ℕ} (cond x.tags.dirty 1 0) (dirty_one (stored_page (store_of t up files) f p))) [
        | true ↦ λ e. sym (ap dirty_one (page_seen t up files f p x there e))
        | false ↦ λ e. ap (λ (s : TagSet). cond s.dirty 1 0) (s.bare f p x there e)
            ∙ sym (ap dirty_one (none_seen t up files f p x there e))
      ] refl

  pub dirty_least : cond x.tags.dirty 1 0 ≤ dirty
  dirty_least =
      let gone = dirty_now t (given t x.frame) up up files dirty f p s here
      (record { rows = λ g q y n e. refl; flags = λ g q y n e. refl }) refl None in
      omega (arith, gone, s.dirty_is, tag_counts)

  pub left_store : (now : ℕ) → now + cond x.tags.dirty 1 0 ≡ dirty
      → IsStore (given t x.frame) up (slice_set files f (with_kept (kept_at files f) p None)) now
  left_store now marks =
      let others : (g q : ℕ) (y : Mapped) → (g ≡ f → q ≡ p → ⊥) → entry_at files g q ≡ Some y
      → owner_of (given t x.frame) y.frame ≡ Some (record { 0 = g }, record { 0 = q }) = λ g q y n e.
      owner-set t x.frame y.frame None (page_within t up files dirty s f p x there)
      ∙ ap (λ b. cond b None (owner_of t y.frame)) (other_frame t up files dirty s g q f p y x e there n)
      ∙ s.owned g q y e in
      store_changed t (given t x.frame) up up files dirty f p s here
      (record { rows = λ g q y n e. refl; flags = λ g q y n e. refl }) refl others
      (length-set t.owners x.frame None) refl s.sized refl (λ g aside. aside)
      (sound_given t s.sound s.few x.frame (page_within t up files dirty s f p x there)) None now
      (λ y e. absurd (none_not_some y e)) (λ y e waits. absurd (none_not_some y e))
      (λ y e aside. absurd (none_not_some y e)) (omega (arith, less_one, one_there))
      (omega (arith, marks, tag_counts))

  pub left_seen : store_of (given t x.frame) up (slice_set files f (with_kept (kept_at files f) p None))
      ≡ with_lists (with_entry (store_of t up files) f p None false (free_frames t + 1)) (lists_of (given t x.frame))
  left_seen =
      seen-entry t (given t x.frame) up up files f p refl here
      (record { rows = λ g q y n e. refl; flags = λ g q y n e. refl }) None
      ∙ ap (λ n. with_lists (with_entry (store_of t up files) f p None false n) (lists_of (given t x.frame))) less_one

  -- ---- the page's bytes and flag change, and its tags

  module _ (row : List ℕ) (long : length row ≡ t.size) (ready : Bool) (y : Mapped) (frame : y.frame ≡ x.frame) where
    abbrev w : Table
    w = record t { bytes = slice_set t.bytes x.frame row }

    abbrev wp : List Bool
    wp = slice_set up x.frame ready

    within_rows : x.frame < length t.bytes
    within_rows = let h = page_within t up files dirty s f p x there in omega (arith, s.rows)

    within_flags : x.frame < length up
    within_flags = let h = page_within t up files dirty s f p x there in omega (arith, s.flags)

    same_else : Alike t w up wp files f p
    same_else = record {
      rows = λ g q z n e. row-set t x.frame z.frame row within_rows
          ∙ ap (λ b. cond b row (row_at t.bytes z.frame)) (other_frame t up files dirty s g q f p z x e there n);
      flags = λ g q z n e. flag-set up x.frame z.frame ready within_flags
          ∙ ap (λ b. cond b ready (is_uptodate up z)) (other_frame t up files dirty s g q f p z x e there n);
    }

    flag_after : is_uptodate wp y ≡ ready
    flag_after = flag-set up x.frame y.frame ready within_flags
        ∙ ap (λ b. cond b ready (is_uptodate up y)) (eq-eqb y.frame x.frame frame)

    page_after : page_of w wp y ≡ cond ready (Some (record { bytes = row; tags = y.tags })) None
    page_after =
        let bytes : row_at w.bytes y.frame ≡ row = row-set t x.frame y.frame row within_rows
        ∙ ap (λ b. cond b row (row_at t.bytes y.frame)) (eq-eqb y.frame x.frame frame) in
        λ i. let page : Page = record { bytes = bytes i; tags = y.tags } in cond (flag_after i) (Some page) None

    awaits_after : awaits wp (Some y) ≡ not ready
    awaits_after = ap not flag_after

    pub changed_store : (now : ℕ) → (ready ≡ false → y.tags ≡ no_tags)
        → (is_aside t x.frame ≡ true → (ready && is_untagged y.tags) ≡ false)
        → now + dirty_one (stored_page (store_of t up files) f p) ≡ dirty
        + dirty_one (cond ready (Some (record { bytes = row; tags = y.tags })) None)
        → IsStore w wp (slice_set files f (with_kept (kept_at files f) p (Some y))) now
    changed_store now tags quiet marks =
        store_changed t w up wp files dirty f p s here same_else refl (λ g q z n e. s.owned g q z e) refl
        (length-set t.bytes x.frame row)
        (All-set (λ (row : List ℕ). length row ≡ t.size) t.bytes x.frame row long s.sized)
        (length-set up x.frame ready) (λ g aside. aside)
        (sound_laid t s.sound (slice_set t.bytes x.frame row) (length-set t.bytes x.frame row ∙ s.rows)) (Some y) now
        (λ z e. ap (owner_of t) (ap (λ (z : Mapped). z.frame) (sym (some_is y z e)) ∙ frame) ∙ s.owned f p x there)
        (λ z e waits. ap (λ (z : Mapped). z.tags) (sym (some_is y z e))
        ∙ tags (sym flag_after ∙ ap (is_uptodate wp) (some_is y z e) ∙ waits))
        (λ z e aside. ap (λ (z : Mapped). is_idle_entry wp (Some z)) (sym (some_is y z e))
        ∙ ap (λ b. b && is_untagged y.tags) flag_after
        ∙ quiet (ap (is_aside t) (sym frame ∙ ap (λ (z : Mapped). z.frame) (some_is y z e)) ∙ aside))
        (omega (arith, one_there)) (omega (arith, marks, ap dirty_one page_after))

    pub changed_seen : store_of w wp (slice_set files f (with_kept (kept_at files f) p (Some y)))
        ≡ with_entry (store_of t up files) f p (cond ready (Some (record { bytes = row; tags = y.tags })) None)
        (not ready) (free_frames t)
    changed_seen = seen-entry t w up wp files f p refl here same_else (Some y)
        ∙ (λ i. with_entry (store_of t up files) f p (page_after i) (awaits_after i) (free_frames t))

  -- ---- and the page stays cached

  module _ (ready : is_uptodate up x ≡ true) where
    pub the_page_is : the_page (stored_at (store_of t up files) f).pages p
        ≡ record { bytes = row_at t.bytes x.frame; tags = x.tags }
    the_page_is = ap (λ (o : Option Page). unwrap_or o (record { bytes = []; tags = no_tags }))
        (page_seen t up files f p x there ready)

    module _ (row : List ℕ) (long : length row ≡ t.size) (y : Mapped) (frame : y.frame ≡ x.frame) where
      same_flags : slice_set up x.frame true ≡ up
      same_flags = ap (slice_set up x.frame) (sym ready) ∙ set-get_or up x.frame false

      pub page_store : (now : ℕ) → (is_aside t x.frame ≡ true → is_untagged y.tags ≡ false) → now + cond x.tags.dirty 1 0 ≡ dirty + cond y.tags.dirty 1 0
          → IsStore (record t { bytes = slice_set t.bytes x.frame row }) up
          (slice_set files f (with_kept (kept_at files f) p (Some y))) now
      page_store now quiet marks =
          subst (λ wp. IsStore (record t { bytes = slice_set t.bytes x.frame row }) wp
          (slice_set files f (with_kept (kept_at files f) p (Some y))) now) same_flags
          (changed_store row long true y frame now (λ e. absurd (false≢true (sym e))) quiet
          (ap (λ (o : Option Page). now + dirty_one o) (page_seen t up files f p x there ready) ∙ marks))

      pub page_after_is : store_of (record t { bytes = slice_set t.bytes x.frame row }) up
          (slice_set files f (with_kept (kept_at files f) p (Some y))) ≡ with_pages (store_of t up files) f
          (finmap.insert (stored_at (store_of t up files) f).pages p (record { bytes = row; tags = y.tags }))
          (free_frames t)
      page_after_is =
          ap (λ wp. store_of (record t { bytes = slice_set t.bytes x.frame row }) wp
          (slice_set files f (with_kept (kept_at files f) p (Some y)))) (sym same_flags)
          ∙ changed_seen row long true y frame
          ∙ entry_page (store_of t up files) f p (Some (record { bytes = row; tags = y.tags })) (free_frames t)
          (waits_at t up files f p ∙ ap (awaits up) there ∙ ap not ready)

  -- the mapping after the page's entry was changed
  pub changed_entry : (change : Mapped → Mapped) → change_at p change (kept_at files f).mapping.pages
      ≡ put_at p (Some (change x)) (kept_at files f).mapping.pages
  changed_entry change = ap (λ o. put_some p (option_map change o) (kept_at files f).mapping.pages) there

-- ---- an entry's page is accessed

either_way : {A B : Type 0} (g : A → B) (b : Bool) (x y : A) (v : B) → g x ≡ v → g y ≡ v → g (cond b x y) ≡ v
either_way g true x y v e d = e
either_way g false x y v e d = d

module _ (t : Table) (up : List Bool) (files : List KeptFile) (dirty fr : ℕ) (s : IsStore t up files dirty) where
  same_size : (accessed t fr).size ≡ t.size
  same_size = either_way (λ (t : Table). t.size) _ _ _ t.size refl refl

  owners_same : (accessed t fr).owners ≡ t.owners
  owners_same = either_way (λ (t : Table). t.owners) _ _ _ t.owners refl refl

  bytes_same : (accessed t fr).bytes ≡ t.bytes
  bytes_same = either_way (λ (t : Table). t.bytes) _ _ _ t.bytes refl refl

  aside_same : (accessed t fr).aside ≡ t.aside
  aside_same = either_way (λ (t : Table). t.aside) _ _ _ t.aside refl refl

  free_same : free_frames (accessed t fr) ≡ free_frames t
  free_same = ap (count_by (λ (o : Option Owner). is_none o)) owners_same

  pub accessed_seen : store_of (accessed t fr) up files ≡ with_lists (store_of t up files) (lists_of (accessed t fr))
  accessed_seen = seen-same t (accessed t fr) up up files same_size free_same
      (λ g q y e. ap (λ (rows : List (List ℕ)). row_at rows y.frame) bytes_same) (λ g q y e. refl)

  pub accessed_store : is_taken t fr ≡ true → IsStore (accessed t fr) up files dirty
  accessed_store there =
      store_same t (accessed t fr) up files dirty s
      (λ g. ap (λ (os : List (Option Owner)). slice_index_or os g None) owners_same)
      (ap (λ (os : List (Option Owner)). length os) owners_same)
      (ap (λ (rows : List (List ℕ)). length rows) bytes_same)
      (subst (λ (rows : List (List ℕ)). All (λ (row : List ℕ). length row ≡ (accessed t fr).size) rows) (sym bytes_same)
      (subst (λ n. All (λ (row : List ℕ). length row ≡ n) t.bytes) (sym same_size) s.sized))
      free_same (λ g aside. ap (λ (flags : List Bool). slice_index_or flags g false) (sym aside_same) ∙ aside)
      accessed_seen (sound_accessed t s.sound s.few fr there)

-- ---- at the start, and a new file

all_replicated : {X : Type 0} (P : X → Type 0) (n : ℕ) (x : X) → P x → All P (replicate n x)
all_replicated P zero x h k d e = absurd (omega arith)
all_replicated P (suc n) x h zero d e = h
all_replicated P (suc n) x h (suc k) d e =
    all_replicated P n x h k d (omega (arith, e, length-replicate (suc n) x, length-replicate n x))

no_pages : (f p : ℕ) (x : Mapped) → entry_at [] f p ≡ Some x → ⊥
no_pages f p x e = none_not_some x (sym (get-empty nat_cmp p) ∙ e)

pub store_start : (size frames : ℕ) (up : List Bool) → frames ≤ MAX_FRAMES → length up ≡ frames
    → IsStore (new_table size frames) up [] 0
store_start size frames up few flags =
    let free : free_frames (new_table size frames) ≡ frames =
    sum_by-replicate (λ (x : Option Owner). cond (is_none x) 1 0) frames None ∙ omega arith in
    let owners : length (new_table size frames).owners ≡ frames = length-replicate frames None in
    record {
      sound = sound_new size frames few;
      owned = λ f p x e. absurd (no_pages f p x e);
      bare = λ f p x e. absurd (no_pages f p x e);
      busy = λ f p x e. absurd (no_pages f p x e);
      counted = omega (arith, free, owners);
      sized = all_replicated (λ (row : List ℕ). length row ≡ size) frames (replicate size 0) (length-replicate size 0);
      rows = length-replicate frames (replicate size 0) ∙ sym owners;
      flags = flags ∙ sym owners;
      few = omega (arith, owners, few);
      dirty_is = refl;
    }

none_dirty : dirty_in no_file ≡ 0
none_dirty = ap (sum_by (λ (e : ℕ × Page). cond e.1.tags.dirty 1 0)) (no_entries nat_cmp)

pub store_push : (t : Table) (up : List Bool) (files : List KeptFile) (dirty : ℕ) → IsStore t up files dirty
    → IsStore t up (files ++ none_kept ∷ []) dirty
store_push t up files dirty s =
    record {
      sound = s.sound;
      owned = λ f p x e. s.owned f p x (sym (entry-push files f p) ∙ e);
      bare = λ f p x e. s.bare f p x (sym (entry-push files f p) ∙ e);
      busy = λ f p x e. s.busy f p x (sym (entry-push files f p) ∙ e);
      counted =
          omega (
            arith,
            sum_by_push (λ (k : KeptFile). finmap.len k.mapping.pages) files none_kept,
            len-empty nat_cmp Mapped,
            s.counted,
          );
      sized = s.sized;
      rows = s.rows;
      flags = s.flags;
      few = s.few;
      dirty_is =
          s.dirty_is ∙ sym (ap (λ (s : Store). sum_by dirty_in s.files) (seen-push t up files)
          ∙ omega (arith, sum_by_push dirty_in (map (file_of t up) files) no_file, none_dirty));
    }

module _ (t : Table) (up : List Bool) (files : List KeptFile) where
  pub pushed_store : (dirty : ℕ) (ok : Bool) (now : List KeptFile) (k : KeptFile)
      → now ≡ cond ok (files ++ k ∷ []) files → k ≡ none_kept → IsStore t up files dirty → IsStore t up now dirty
  pushed_store dirty true now k e is s = subst (λ fs. IsStore t up fs dirty) (sym (e ∙ ap (λ x. files ++ x ∷ []) is))
      (store_push t up files dirty s)
  pushed_store dirty false now k e is s = subst (λ fs. IsStore t up fs dirty) (sym e) s

  pub pushed_seen : (ok : Bool) (now : List KeptFile) (k : KeptFile) → now ≡ cond ok (files ++ k ∷ []) files
      → k ≡ none_kept → ok ≡ true → store_of t up now ≡ record (store_of t up files)
      { files = map (file_of t up) files ++ no_file ∷ [] }
  pushed_seen true now k e is o = ap (store_of t up) (e ∙ ap (λ x. files ++ x ∷ []) is) ∙ seen-push t up files
  pushed_seen false now k e is o = absurd (false≢true o)

pub here_kept : (t : Table) (up : List Bool) (files : List KeptFile) (f : ℕ) (s : Store) → store_of t up files ≡ s
    → f < length s.files → f < length files
here_kept t up files f s e h = omega (arith, h, ap (λ (s : Store). length s.files) e, length-map files (file_of t up))

-- ---- a file's own fields are set, and no page changes

pub store_file : (t : Table) (up : List Bool) (files : List KeptFile) (dirty f : ℕ) (k : KeptFile)
    → k.mapping.pages ≡ (kept_at files f).mapping.pages → f < length files → IsStore t up files dirty
    → IsStore t up (slice_set files f k) dirty
store_file t up files dirty f k is here s =
    let pages : finmap.len k.mapping.pages ≡ finmap.len (kept_at files f).mapping.pages = ap finmap.len is in
    let seen = ap (λ (s : Store). sum_by dirty_in s.files) (seen-file t up files f k (file_of t up k) here is refl) in
    let marks : dirty_in (file_of t up k) ≡ dirty_in (slice_index_or (map (file_of t up) files) f no_file) =
    ap (λ (m : FinMap nat_cmp Mapped). dirty_in (record (file_of t up k) { pages = each_seen (page_of t up) m })) is
    ∙ sym (ap dirty_in (stored-kept t up files f)) in
    record {
      sound = s.sound;
      owned = λ g q x e. s.owned g q x (sym (entry-kept files f k here is g q) ∙ e);
      bare = λ g q x e. s.bare g q x (sym (entry-kept files f k here is g q) ∙ e);
      busy = λ g q x e. s.busy g q x (sym (entry-kept files f k here is g q) ∙ e);
      counted =
          omega (
            arith,
            sum_by-set (λ (k : KeptFile). finmap.len k.mapping.pages) files f k none_kept here,
            pages,
            s.counted,
          );
      sized = s.sized;
      rows = s.rows;
      flags = s.flags;
      few = s.few;
      dirty_is =
          omega (
            arith,
            s.dirty_is,
            seen,
            sum_by-set dirty_in (map (file_of t up) files) f (file_of t up k) no_file
                (omega (arith, here, length-map files (file_of t up))),
            marks,
          );
    }

-- ---- a part of a row is written

pub byte_is : (b : Bool) → from_bool b ≡ cond b 1 0
byte_is true = refl
byte_is false = refl

abbrev pub row_with : List ℕ → ℕ → List ℕ → List ℕ
row_with row at b = take at row ++ b ++ drop (at + length b) row

pub row_put : (at k : ℕ) (held row now b : List ℕ) → held ≡ row → now ≡ b → k ≡ length b
    → put_mid at k held now ≡ row_with row at b
row_put at k held row now b e d n = (λ i. put_mid at (n i) (e i) (d i))
    ∙ ap (λ (xs : List ℕ). take at row ++ (b ++ xs)) (drop-drop (length b) at row)
    ∙ sym (append_assoc (take at row) b (drop (at + length b) row))

pub length-row_with : (row : List ℕ) (at : ℕ) (b : List ℕ) → at + length b ≤ length row
    → length (row_with row at b) ≡ length row
length-row_with row at b h =
    omega (
      arith,
      length-append (take at row ++ b) (drop (at + length b) row),
      length-append (take at row) b,
      length-take at row,
      length-drop (at + length b) row,
      h,
    )
