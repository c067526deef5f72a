-- The DIRTY pages of a file become TOWRITE, in its mapping and as the store shows them.
use Rattle.std.proofs.Common.{◌≡◌, ℕ, ◌+◌, ◌<◌, Bool, true, false, cond, not, eqb, eqb-true, List, [], ◌∷◌, length}
use Rattle.std.proofs.Common.{refl, ap, sym, subst, ◌∙◌, arith, map, fold, count_by}
use Rattle.std.specs.Prelude.{◌&&◌, ◌||◌, Option, Some, None, option_map, slice_set, slice_index_or, sum_by}
use Rattle.std.specs.Option.{option_and_then}
use Rattle.std.specs.Ordering.{nat_cmp}
use Rattle.std.specs.FinMap as finmap
use Rattle.std.specs.FinMap.{FinMap}
use Rattle.std.proofs.lemmas.Bool.{false≢true}
use Rattle.std.proofs.lemmas.List.{get_or_read, length-map, length-set}
use Rattle.std.proofs.lemmas.List.Sums.{sum_by-set}
use Rattle.pc_types.specs.Tags.{TagSet, no_tags}
use Rattle.frames.specs.Table.{Table, is_aside, owner_of}
use Rattle.frames.specs.Rows.{row_at}
use Rattle.mapping.specs.Pages.{FilePages, Mapped, Pages}
use Rattle.writeback.specs.Picks as picks
use Rattle.pagestore.specs.declared.kept.KeptFile.{KeptFile}
use Rattle.machine.specs.State.{Sync, in_range, File, Page, no_file, dirty_in}
use Rattle.maps.specs.Maps.{each_value}
use Rattle.machine.specs.Changes.{to_write}
use Rattle.pagestore.specs.Store.{Store, IsStore, store_of, none_kept, is_uptodate, awaits, page_of, file_of, each_seen}
use Rattle.pagestore.specs.Store.{is_untagged, kept_at, entry_at, stored_at, with_pages}
use Rattle.maps.proofs.MapLaws.{entries-each_value, len-each_value, same_nat_map}
use Rattle.maps.proofs.Maps.{get-each_value}
use Rattle.machine.proofs.changes.StateLaws.{get_or-set}
use Rattle.pagestore.proofs.StoreEntries.{get-each_seen}
use Rattle.pagestore.proofs.StoreFacts.{here_kept}
use Rattle.pagestore.proofs.StoreLaws.{kept-set, store_is, stored-kept, waits_at}

-- ---- one page

-- TOWRITE, where it is DIRTY and in the range of the sync
abbrev marked : Sync → ℕ → Mapped → Mapped
marked y = picks.to_write y.first y.last

no_mark : (y : Sync) (p : ℕ) (x : Mapped) → x.tags ≡ no_tags → (marked y p x).tags ≡ no_tags
no_mark y p x e = ap (λ (g : TagSet). let g : TagSet = record g { towrite = g.towrite || g.dirty && in_range y p } in g)
    e

no_less : (y : Sync) (p : ℕ) (x : Mapped) → is_untagged x.tags ≡ false → is_untagged (marked y p x).tags ≡ false
no_less y p x e = go x.tags.dirty x.tags.writeback x.tags.towrite (in_range y p) e
  where
    go : (d w h r : Bool) → (not d && not w && not h) ≡ false → (not d && not w && not (h || d && r)) ≡ false
    go true w h r e = refl
    go false true h r e = refl
    go false false true r e = refl
    go false false false r e = absurd (false≢true (sym e))

still_busy : (ready before after : Bool) → (ready && before) ≡ false → (before ≡ false → after ≡ false)
    → (ready && after) ≡ false
still_busy true before after e h = h e
still_busy false before after e h = refl

module _ (t : Table) (up : List Bool) (y : Sync) where
  page_marked : (p : ℕ) (x : Mapped) → page_of t up (marked y p x) ≡ option_map (to_write y p) (page_of t up x)
  page_marked p x = go (is_uptodate up x)
    where
      seen : Bool → Mapped → Option Page
      seen b x = cond b (let page : Page = record { bytes = row_at t.bytes x.frame; tags = x.tags } in Some page) None

      go : (b : Bool) → seen b (marked y p x) ≡ option_map (to_write y p) (seen b x)
      go true = refl
      go false = refl

  -- ---- the pages of a file

  one : (p : ℕ) (o : Option Mapped) → option_and_then (page_of t up) (option_map (marked y p) o)
      ≡ option_map (to_write y p) (option_and_then (page_of t up) o)
  one p None = refl
  one p (Some x) = page_marked p x

  pages_marked : (m : Pages) → each_seen (page_of t up) (each_value (marked y) m) ≡ each_value (to_write y)
      (each_seen (page_of t up) m)
  pages_marked m = same_nat_map _ _ (λ q. get-each_seen (page_of t up) (each_value (marked y) m) q
      ∙ ap (option_and_then (page_of t up)) (get-each_value (marked y) m q)
      ∙ one q (finmap.get m q)
      ∙ ap (option_map (to_write y q)) (sym (get-each_seen (page_of t up) m q))
      ∙ sym (get-each_value (to_write y) (each_seen (page_of t up) m) q))

fold_dirty : (y : Sync) (n : ℕ) (es : List (ℕ × Page))
    → fold (λ a (e : ℕ × Page). a + cond e.1.tags.dirty 1 0) n (map (λ (e : ℕ × Page). (e.0, to_write y e.0 e.1)) es)
    ≡ fold (λ a (e : ℕ × Page). a + cond e.1.tags.dirty 1 0) n es
fold_dirty y n [] = refl
fold_dirty y n (e ∷ es) = fold_dirty y (n + cond e.1.tags.dirty 1 0) es

-- as many pages are DIRTY as before
dirty_marked : (y : Sync) (m : FinMap nat_cmp Page)
    → count_by (λ (e : ℕ × Page). e.1.tags.dirty) (finmap.entries (each_value (to_write y) m))
    ≡ count_by (λ (e : ℕ × Page). e.1.tags.dirty) (finmap.entries m)
dirty_marked y m = ap (count_by (λ (e : ℕ × Page). e.1.tags.dirty)) (entries-each_value (to_write y) m)
    ∙ fold_dirty y 0 (finmap.entries m)

-- ---- the store. k is file f, and m its mapping after

module _ (t : Table) (up : List Bool) (files : List KeptFile) (dirty : ℕ) (s : IsStore t up files dirty) (store : Store)
    (is : store_of t up files ≡ store) (f : ℕ) (within : f < length store.files) (k : KeptFile)
    (value : k ≡ slice_index_or files f k) (m : FilePages) (y : Sync)
    (changed : m ≡ record k.mapping { pages = each_value (marked y) k.mapping.pages }) where
  here : f < length files
  here = here_kept t up files f store is within

  entry : k ≡ kept_at files f
  entry = get_or_read files f k here value none_kept

  abbrev after : KeptFile
  after = record (kept_at files f)
      { mapping = record (kept_at files f).mapping { pages = each_value (marked y) (kept_at files f).mapping.pages } }

  kept : record k { mapping = m } ≡ after
  kept =
      ap (λ (m : FilePages). let l : KeptFile = record k { mapping = m } in l) changed
      ∙ ap (λ (k : KeptFile). let l : KeptFile =
      record k { mapping = record k.mapping { pages = each_value (marked y) k.mapping.pages } } in l) entry

  at : (g q : ℕ) → entry_at (slice_set files f after) g q
      ≡ cond (eqb g f) (option_map (marked y q) (entry_at files g q)) (entry_at files g q)
  at g q = ap (λ (l : KeptFile). finmap.get l.mapping.pages q) (kept-set files f g after here) ∙ go (eqb g f) refl
    where
      go : (b : Bool) → eqb g f ≡ b → finmap.get (cond b after (kept_at files g)).mapping.pages q
          ≡ cond b (option_map (marked y q) (entry_at files g q)) (entry_at files g q)
      go true e = get-each_value (marked y) (kept_at files f).mapping.pages q
          ∙ ap (λ n. option_map (marked y q) (entry_at files n q)) (sym (eqb-true g f e))
      go false e = refl

  -- an entry was one with the same frame
  was : (g q : ℕ) (x : Mapped) → entry_at (slice_set files f after) g q ≡ Some x
      → (z : Mapped) × (entry_at files g q ≡ Some z) × (z.frame ≡ x.frame) × (z.tags ≡ no_tags → x.tags ≡ no_tags)
      × (is_untagged z.tags ≡ false → is_untagged x.tags ≡ false)
  was g q x e = go (eqb g f) (entry_at files g q) refl (sym (at g q) ∙ e)
    where
      go : (b : Bool) (o : Option Mapped) → entry_at files g q ≡ o → cond b (option_map (marked y q) o) o ≡ Some x
          → (z : Mapped) × (entry_at files g q ≡ Some z) × (z.frame ≡ x.frame) × (z.tags ≡ no_tags → x.tags ≡ no_tags)
          × (is_untagged z.tags ≡ false → is_untagged x.tags ≡ false)
      go true None i h = absurd cc
      go false None i h = absurd cc
      go true (Some z) i h =
          (let same : marked y q z ≡ x = cc in (
            z,
            i,
            ap (λ (v : Mapped). v.frame) same,
            λ none. ap (λ (v : Mapped). v.tags) (sym same)
                ∙ no_mark y q z none,
            λ tagged. ap (λ (v : Mapped). is_untagged v.tags) (sym same) ∙ no_less y q z tagged,
          ))
      go false (Some z) i h =
          (let same : z ≡ x =
          cc in (
            z,
            i,
            ap (λ (v : Mapped). v.frame) same,
            λ none. ap (λ (v : Mapped). v.tags) (sym same) ∙ none,
            λ tagged. ap (λ (v : Mapped). is_untagged v.tags) (sym same) ∙ tagged,
          ))

  seen_after : store_of t up (slice_set files f after) ≡ record (store_of t up files)
      { files = slice_set (map (file_of t up) files) f (file_of t up after) }
  seen_after =
      let old = store_of t up files in
      store_is t up (slice_set files f after) (record old { files = slice_set old.files f (file_of t up after) }) refl
      (length-set files f after ∙ sym (length-map files (file_of t up))
      ∙ sym (length-set old.files f (file_of t up after)))
      (λ g. ap (file_of t up) (kept-set files f g after here) ∙ either g (eqb g f)
      ∙ sym (get_or-set old.files f g (file_of t up after) no_file
      (omega (arith, here, length-map files (file_of t up)))))
      (λ g q. ap (awaits up) (at g q) ∙ waits q (eqb g f) (entry_at files g q) ∙ sym (waits_at t up files g q))
      refl
      refl
    where
      either : (g : ℕ) (b : Bool) → file_of t up (cond b after (kept_at files g)) ≡ cond b (file_of t up after)
          (stored_at (store_of t up files) g)
      either g true = refl
      either g false = sym (stored-kept t up files g)

      waits : (q : ℕ) (b : Bool) (o : Option Mapped) → awaits up (cond b (option_map (marked y q) o) o) ≡ awaits up o
      waits q true None = refl
      waits q true (Some z) = refl
      waits q false o = refl

  file_is : file_of t up after ≡ record (file_of t up (kept_at files f))
      { pages = each_value (to_write y) (file_of t up (kept_at files f)).pages }
  file_is =
      λ i. record (file_of t up (kept_at files f)) { pages = pages_marked t up y (kept_at files f).mapping.pages i }

  pub marked_seen : store_of t up (slice_set files f (record k { mapping = m }))
      ≡ with_pages store f (each_value (to_write y) (stored_at store f).pages) store.free
  marked_seen =
      ap (λ (l : KeptFile). store_of t up (slice_set files f l)) kept
      ∙ seen_after
      ∙ ap (λ (e : File). let u : Store =
      record (store_of t up files) { files = slice_set (map (file_of t up) files) f e } in u)
      (file_is ∙ ap (λ (e : File). let y : File = record e { pages = each_value (to_write y) e.pages } in y)
      (sym (stored-kept t up files f)))
      ∙ ap (λ (u : Store). with_pages u f (each_value (to_write y) (stored_at u f).pages) u.free) is

  pub marked_store : IsStore t up (slice_set files f (record k { mapping = m })) dirty
  marked_store =
      let pages : finmap.len after.mapping.pages ≡ finmap.len (kept_at files f).mapping.pages =
      len-each_value (marked y) (kept_at files f).mapping.pages in
      let total = ap (λ (u : Store). sum_by dirty_in u.files) seen_after in
      let marks : dirty_in (file_of t up after) ≡ dirty_in (slice_index_or (map (file_of t up) files) f no_file) =
      ap dirty_in file_is ∙ dirty_marked y (file_of t up (kept_at files f)).pages
      ∙ sym (ap dirty_in (stored-kept t up files f)) in
      let files_sum = sum_by-set dirty_in (map (file_of t up) files) f (file_of t up after) no_file
      (omega (arith, here, length-map files (file_of t up))) in
      let it : IsStore t up (slice_set files f after) dirty = record {
        sound = s.sound;
        owned = λ g q x e. (let w = was g q x e in
            subst (λ n. owner_of t n ≡ Some (record { 0 = g }, record { 0 = q })) w.2 (s.owned g q w.0 w.1));
        bare = λ g q x e free. (let w = was g q x e in
            w.3 (s.bare g q w.0 w.1 (ap (λ n. slice_index_or up n false) w.2 ∙ free)));
        busy = λ g q x e aside. (let w = was g q x e in
            still_busy (is_uptodate up x) (is_untagged w.0.tags) (is_untagged x.tags)
            (ap (λ n. slice_index_or up n false && is_untagged w.0.tags) (sym w.2)
            ∙ s.busy g q w.0 w.1 (ap (is_aside t) w.2 ∙ aside)) w.4);
        counted =
            omega (
              arith,
              sum_by-set (λ (k : KeptFile). finmap.len k.mapping.pages) files f after none_kept here,
              pages,
              s.counted,
            );
        sized = s.sized;
        rows = s.rows;
        flags = s.flags;
        few = s.few;
        dirty_is = omega (arith, s.dirty_is, total, files_sum, marks);
      } in
      subst (λ (l : KeptFile). IsStore t up (slice_set files f l) dirty) (sym kept) it
