-- A cached page gets other tags and keeps its bytes, or gets other bytes and is DIRTY.
use Rattle.std.proofs.Common.{◌≡◌, ℕ, ◌+◌, ◌<◌, ◌≤◌, Bool, true, false, cond, not, List, [], length, refl, ap, sym}
use Rattle.std.proofs.Common.{subst, ◌∙◌, arith}
use borrow.Rule.Slice.PartMut.{put_mid}
use Rattle.std.specs.Int.{from_bool}
use Rattle.std.specs.Prelude.{All, Some, None, is_some, slice_set, slice_index_or}
use Rattle.std.specs.FinMap as finmap
use Rattle.std.proofs.lemmas.Bool.{false≢true}
use Rattle.std.proofs.lemmas.List.{get_or_read, set-get_or}
use Rattle.frames.specs.Table.{free_frames, is_aside, is_taken}
use Rattle.frames.specs.Rows.{row_at, with_row}
use Rattle.frames.proofs.RowLemmas.{with_row-whole}
use Rattle.pc_types.specs.declared.tags.Tag.TheVariants.{Dirty}
use Rattle.maps.specs.Maps.{change_at}
use Rattle.mapping.specs.Pages.{FilePages, Mapped, Pages, with_tag}
use Rattle.pagestore.specs.declared.kept.KeptFile.{KeptFile}
use Rattle.pagestore.specs.declared.pages.Pages.TheInside.{Inside}
use Rattle.machine.specs.State.{Page}
use Rattle.pagestore.specs.Ranges.{with_part}
use Rattle.pagestore.specs.Store.{the_page, Store, IsStore, store_of, none_kept, is_uptodate, has_page, kept_at}
use Rattle.pagestore.specs.Store.{entry_at, is_untagged, stored_at, stored_page, with_pages}
use Rattle.pagestore.proofs.StoreLaws.{cached_at, cached_entry, some_entry, with_kept}
use Rattle.pagestore.proofs.StoreFacts.{here_kept, page_store, page_after_is, changed_entry, the_page_is, page_taken}
use Rattle.pagestore.proofs.StoreFacts.{page_size, dirty_least, row_with, row_put}
use Rattle.pagestore.proofs.StoreFacts.{length-row_with}

-- a cached page, in the file that was looked up
pub record CachedPage : Type 0 where
  pub pages : Inside
  pub kept : IsStore pages.frames pages.uptodate.items pages.files.items pages.dirty
  pub store : Store
  pub seen : store_of pages.frames pages.uptodate.items pages.files.items ≡ store
  pub file : ℕ
  pub page : ℕ
  pub here : file < length store.files
  pub cached : is_some (stored_page store file page) ≡ true
  pub found : KeptFile
  pub value : found ≡ slice_index_or pages.files.items file found

module _ (w : CachedPage) where
  open w use {store, file as f, page as p, found as k, kept as s, seen as is}
  open w.pages use {frames as t, dirty, uptodate.{items as up}, files.{items as files}}

  here : f < length files
  here = here_kept t up files f store w.seen w.here

  entry : k ≡ kept_at files f
  entry = get_or_read files f k here w.value none_kept

  has : has_page up (entry_at files f p) ≡ true
  has = cached_at t up files f p ∙ ap (λ (s : Store). is_some (stored_page s f p)) is ∙ w.cached

  is_entered : is_some (finmap.get k.mapping.pages p) ≡ true
  is_entered = ap (λ (k : KeptFile). is_some (finmap.get k.mapping.pages p)) entry
      ∙ some_entry up (entry_at files f p) has

  pub none_left : None ≡ finmap.get k.mapping.pages p → ⊥
  none_left e = false≢true (ap is_some e ∙ is_entered)

  module _ (x : Mapped) (found : Some x ≡ finmap.get k.mapping.pages p) where
    there : entry_at files f p ≡ Some x
    there = sym (found ∙ ap (λ (k : KeptFile). finmap.get k.mapping.pages p) entry)

    ready : is_uptodate up x ≡ true
    ready = cached_entry up (entry_at files f p) has x there

    pub frame_taken : is_taken t x.frame ≡ true
    frame_taken = page_taken t up files dirty s f p x there

    pub counts_dirty : cond x.tags.dirty 1 0 ≤ dirty
    counts_dirty = dirty_least t up files dirty f p x s here there

    pub page_found : the_page (stored_at store f).pages p ≡ record { bytes = row_at t.bytes x.frame; tags = x.tags }
    page_found = sym (ap (λ (s : Store). the_page (stored_at s f).pages p) is)
        ∙ the_page_is t up files dirty f p x s here there ready

    pub its_size : length (the_page (stored_at store f).pages p).bytes ≡ store.page
    its_size = ap (λ (page : Page). length page.bytes) page_found ∙ page_size t up files dirty s f p x there
        ∙ ap (λ (s : Store). s.page) is

    -- the mapping after its page was changed
    module _ (change : Mapped → Mapped) (frame : (change x).frame ≡ x.frame) (m : FilePages)
        (changed : m ≡ record k.mapping { pages = change_at p change k.mapping.pages }) where
      kept : record k { mapping = m } ≡ with_kept (kept_at files f) p (Some (change x))
      kept =
          ap (λ (m : FilePages). let l : KeptFile = record k { mapping = m } in l) changed
          ∙ ap (λ (k : KeptFile). let l : KeptFile =
          record k { mapping = record k.mapping { pages = change_at p change k.mapping.pages } } in l) entry
          ∙ ap (λ (n : Pages). let l : KeptFile =
          record (kept_at files f) { mapping = record (kept_at files f).mapping { pages = n } } in l)
          (changed_entry t up files dirty f p x s here there change)

      same_rows : slice_set t.bytes x.frame (row_at t.bytes x.frame) ≡ t.bytes
      same_rows = set-get_or t.bytes x.frame []

      pub tagged_store : (now : ℕ) → (is_aside t x.frame ≡ true → is_untagged (change x).tags ≡ false) → now + cond x.tags.dirty 1 0 ≡ dirty + cond (change x).tags.dirty 1 0
          → IsStore t up (slice_set files f (record k { mapping = m })) now
      tagged_store now quiet marks =
          subst (λ (l : KeptFile). IsStore t up (slice_set files f l) now) (sym kept)
          (subst (λ (rows : List (List ℕ)). IsStore (record t { bytes = rows }) up
          (slice_set files f (with_kept (kept_at files f) p (Some (change x)))) now) same_rows
          (page_store t up files dirty f p x s here there ready (row_at t.bytes x.frame)
          (page_size t up files dirty s f p x there) (change x) frame now quiet marks))

      pub tagged_seen : (after : Page → Page) → record { bytes = row_at t.bytes x.frame; tags = (change x).tags }
          ≡ after (record { bytes = row_at t.bytes x.frame; tags = x.tags })
          → store_of t up (slice_set files f (record k { mapping = m }))
          ≡ with_pages store f (finmap.insert (stored_at store f).pages p
          (after (the_page (stored_at store f).pages p))) store.free
      tagged_seen after e =
          ap (λ (l : KeptFile). store_of t up (slice_set files f l)) kept
          ∙ ap (λ (rows : List (List ℕ)). store_of (record t { bytes = rows }) up
          (slice_set files f (with_kept (kept_at files f) p (Some (change x))))) (sym same_rows)
          ∙ page_after_is t up files dirty f p x s here there ready (row_at t.bytes x.frame)
          (page_size t up files dirty s f p x there) (change x) frame
          ∙ ap (λ (page : Page). with_pages (store_of t up files) f
          (finmap.insert (stored_at (store_of t up files) f).pages p page) (free_frames t))
          (e ∙ ap after (sym (the_page_is t up files dirty f p x s here there ready)))
          ∙ ap (λ (s : Store). with_pages s f
          (finmap.insert (stored_at s f).pages p (after (the_page (stored_at s f).pages p))) s.free) is

    -- bytes are put into it from `at` on, and it is DIRTY
    module _ (at : ℕ) (b : List ℕ) (fits : at + length b ≤ store.page) where
      abbrev pub row : List ℕ
      row = row_with (row_at t.bytes x.frame) at b

      long : length row ≡ t.size
      long =
          let size = page_size t up files dirty s f p x there in
          let page = ap (λ (s : Store). s.page) is in
          length-row_with (row_at t.bytes x.frame) at b (omega (arith, size, page, fits)) ∙ size

      -- as the frames and the copy say it
      pub rows_put : (n : ℕ) (held now : List ℕ) → held ≡ row_at t.bytes x.frame → now ≡ b → n ≡ length b
          → All (λ row. length row ≡ t.size) t.bytes → x.frame < length t.bytes
          → with_row t.size t.bytes x.frame (put_mid at n held now) ≡ slice_set t.bytes x.frame row
      rows_put n held now e d count sized within =
          ap (with_row t.size t.bytes x.frame) (row_put at n held (row_at t.bytes x.frame) now b e d count)
          ∙ with_row-whole t.size t.bytes x.frame row sized within long

      -- one page more is DIRTY, where this one was not
      pub dirty_more : (n : ℕ) (was : Bool) → n ≡ from_bool (not was) → was ≡ x.tags.dirty
          → dirty + n + cond x.tags.dirty 1 0 ≡ dirty + 1
      dirty_more n was told is = ap (λ m. dirty + m + cond x.tags.dirty 1 0) (told ∙ ap (λ b. from_bool (not b)) is)
          ∙ either x.tags.dirty
        where
          either : (b : Bool) → dirty + from_bool (not b) + cond b 1 0 ≡ dirty + 1
          either true = omega arith
          either false = omega arith

      module _ (rows : List (List ℕ)) (rows_are : rows ≡ slice_set t.bytes x.frame row) (m : FilePages)
          (changed : m ≡ record k.mapping { pages = change_at p (with_tag Dirty true) k.mapping.pages }) where
        pub put_store : (now : ℕ) → now + cond x.tags.dirty 1 0 ≡ dirty + 1
            → IsStore (record t { bytes = rows }) up (slice_set files f (record k { mapping = m })) now
        put_store now marks =
            subst (λ (rs : List (List ℕ)). IsStore (record t { bytes = rs }) up
            (slice_set files f (record k { mapping = m })) now) (sym rows_are)
            (subst (λ (l : KeptFile). IsStore (record t { bytes = slice_set t.bytes x.frame row }) up
            (slice_set files f l) now) (sym (kept (with_tag Dirty true) refl m changed))
            (page_store t up files dirty f p x s here there ready row long (with_tag Dirty true x) refl now (λ aside. refl)
            marks))

        pub put_seen : store_of (record t { bytes = rows }) up (slice_set files f (record k { mapping = m }))
            ≡ with_pages store f (finmap.insert (stored_at store f).pages p
            (with_part (the_page (stored_at store f).pages p) at b)) store.free
        put_seen =
            (λ i. store_of (record t { bytes = rows_are i }) up
            (slice_set files f (kept (with_tag Dirty true) refl m changed i)))
            ∙ page_after_is t up files dirty f p x s here there ready row long (with_tag Dirty true x) refl
            ∙ ap (λ (page : Page). with_pages (store_of t up files) f
            (finmap.insert (stored_at (store_of t up files) f).pages p (with_part page at b)) (free_frames t))
            (sym (the_page_is t up files dirty f p x s here there ready))
            ∙ ap (λ (s : Store). with_pages s f
            (finmap.insert (stored_at s f).pages p (with_part (the_page (stored_at s f).pages p) at b)) s.free) is
