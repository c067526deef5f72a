-- A page that is DIRTY, found by its frame: it is cached, gets other bytes, and is accessed.
use Rattle.std.proofs.Common.{◌≡◌, ℕ, ◌+◌, ◌-◌, ◌<◌, ◌≤◌, Bool, true, false, List, length, refl, ap, sym, subst, ◌∙◌, not}
use Rattle.std.proofs.Common.{arith}
use Rattle.std.specs.Prelude.{◌&&◌, Option, Some, None, is_some, option_map, slice_set, slice_index_or}
use Rattle.std.specs.FinMap as finmap
use Rattle.std.proofs.lemmas.Bool.{false≢true}
use borrow.Rule.Slice.PartMut.{put_mid}
use Rattle.pc_types.specs.declared.ids.FrameId.{FrameId}
use Rattle.pc_types.specs.declared.tags.Tag.TheVariants.{Dirty}
use Rattle.pc_types.specs.Tags.{TagSet}
use Rattle.frames.specs.Table as table
use Rattle.frames.specs.Table.{Table, is_taken, free_frames}
use Rattle.frames.specs.Rows.{row_at, with_row}
use Rattle.frames.proofs.RowLemmas.{with_row-whole}
use Rattle.mapping.specs.Pages.{Mapped, frame_of, has_at}
use Rattle.mapping.proofs.PageLemmas.{none_framed, tag_of}
use Rattle.pagestore.specs.declared.kept.KeptFile.{KeptFile}
use Rattle.machine.specs.PageLists.{accessed}
use Rattle.pagestore.specs.Ranges.{with_part}
use Rattle.machine.specs.State.{Page, tags_of}
use Rattle.pagestore.specs.Store.{the_page, Store, IsStore, store_of, is_uptodate, kept_at, entry_at}
use Rattle.pagestore.specs.Store.{lists_of, stored_at, stored_page, with_lists, with_pages}
use Rattle.pagestore.proofs.StoreLaws.{dirty_at, kept_same}
use Rattle.pagestore.proofs.PagePlaces.{FilePage, file_entry, file_here}
use Rattle.pagestore.proofs.StoreFacts.{page_taken, page_within, page_size, page_store, page_after_is}
use Rattle.pagestore.proofs.StoreFacts.{the_page_is, accessed_store, accessed_seen, row_with, row_put, length-row_with}
use Rattle.pagestore.proofs.FrameEntries.{framed, framed_entry}
use Rattle.pagestore.proofs.ListedFrames.{lists-accessed}
use Rattle.pagestore.proofs.Owners.{its_frame}

-- a frame was found, so its page has the tag
found_tagged : (b : Bool) (frame : FrameId) (o : Option FrameId) → (b ≡ true → Some frame ≡ o)
    → (b ≡ false → Some frame ≡ None) → (b ≡ true) × (Some frame ≡ o)
found_tagged true frame o is untagged = (refl, is refl)
found_tagged false frame o is untagged =
    absurd (false≢true (sym (ap (λ (o : Option FrameId). is_some o) (untagged refl))))

-- none was found, so no page has the tag
none_tagged : (b : Bool) (o : Option Mapped) → (b ≡ true → None ≡ option_map frame_of o) → (o ≡ None → b ≡ false)
    → b ≡ false
none_tagged true o is absent = absent (none_framed o (is refl))
none_tagged false o is absent = refl

-- k is file f
module _ (w : FilePage) (k : KeptFile) (value : k ≡ slice_index_or w.pages.files.items w.file k) where
  open w use {store, file as f, page as p, kept as s, seen as is}
  open w.pages use {frames as t, dirty, uptodate.{items as up}, files.{items as files}}

  here : f < length files
  here = file_here w

  entry : k ≡ kept_at files f
  entry = file_entry w k value

  dirty_is : has_at k.mapping.pages p Dirty ≡ (tags_of (stored_page store f p)).dirty
  dirty_is = ap (λ (k : KeptFile). has_at k.mapping.pages p Dirty) entry ∙ dirty_at t up files f p (s.bare f p)
      ∙ ap (λ (s : Store). (tags_of (stored_page s f p)).dirty) is

  pub not_dirty : (has_at k.mapping.pages p Dirty ≡ true → None ≡ option_map frame_of (finmap.get k.mapping.pages p))
      → false ≡ (tags_of (stored_page store f p)).dirty
  not_dirty none =
      let absent : finmap.get k.mapping.pages p ≡ None → has_at k.mapping.pages p Dirty ≡ false = λ e. cc in
      sym (none_tagged (has_at k.mapping.pages p Dirty) (finmap.get k.mapping.pages p) none absent) ∙ dirty_is

  module _ (frame : FrameId) (found : has_at k.mapping.pages p Dirty ≡ true
      → Some frame ≡ option_map frame_of (finmap.get k.mapping.pages p))
      (other : has_at k.mapping.pages p Dirty ≡ false → Some frame ≡ None) where
    both : (has_at k.mapping.pages p Dirty ≡ true) × (Some frame ≡ option_map frame_of (finmap.get k.mapping.pages p))
    both = found_tagged (has_at k.mapping.pages p Dirty) frame (option_map frame_of (finmap.get k.mapping.pages p))
        found other

    abbrev x : Mapped
    x = framed (entry_at files f p) frame

    there : entry_at files f p ≡ Some x
    there = framed_entry (entry_at files f p) frame
        (both.1 ∙ ap (λ (k : KeptFile). option_map frame_of (finmap.get k.mapping.pages p)) entry)

    has_tag : x.tags.dirty ≡ true
    has_tag = sym (tag_of p Dirty (kept_at files f).mapping.pages x there)
        ∙ ap (λ (k : KeptFile). has_at k.mapping.pages p Dirty) (sym entry) ∙ both.0

    pub is_dirty : true ≡ (tags_of (stored_page store f p)).dirty
    is_dirty = sym both.0 ∙ dirty_is

    pub its_frame_taken : is_taken t frame.0 ≡ true
    its_frame_taken = page_taken t up files dirty s f p x there

    -- a page that is filling has no tags
    ready : is_uptodate up x ≡ true
    ready = elim (is_uptodate up x) as (λ b. is_uptodate up x ≡ b → b ≡ true) [
      | true ↦ λ e. refl
      | false ↦ λ e. absurd (false≢true (sym (ap (λ (g : TagSet). g.dirty) (s.bare f p x there e)) ∙ has_tag))
    ] refl

    -- the bytes b are put into the frame from `at` on
    module _ (at : ℕ) (b : List ℕ) (fits : at + length b ≤ store.page) where
      abbrev row : List ℕ
      row = row_with (row_at t.bytes frame.0) at b

      abbrev u : Table
      u = record t { bytes = slice_set t.bytes frame.0 row }

      long : length row ≡ t.size
      long =
          let size = page_size t up files dirty s f p x there in
          length-row_with (row_at t.bytes frame.0) at b (omega (arith, size, fits, ap (λ (s : Store). s.page) is))
          ∙ size

      put_store : IsStore u up files dirty
      put_store = subst (λ (fs : List KeptFile). IsStore u up fs dirty) (kept_same files f p x there)
          (page_store t up files dirty f p x s here there ready row long x refl dirty
          (λ aside. ap (λ b. not b && not x.tags.writeback && not x.tags.towrite) has_tag) refl)

      part : record { bytes = row; tags = x.tags } ≡ with_part (the_page (stored_at (store_of t up files) f).pages p) at
          b
      part =
          (λ i. let page : Page = record { bytes = row; tags = record x.tags { dirty = has_tag i } } in page)
          ∙ ap (λ (page : Page). with_part page at b) (sym (the_page_is t up files dirty f p x s here there ready))

      put_seen : store_of u up files
          ≡ with_pages store f (finmap.insert (stored_at store f).pages p
          (with_part (the_page (stored_at store f).pages p) at b)) store.free
      put_seen =
          ap (store_of u up) (sym (kept_same files f p x there))
          ∙ page_after_is t up files dirty f p x s here there ready row long x refl
          ∙ ap (λ (page : Page). with_pages (store_of t up files) f
          (finmap.insert (stored_at (store_of t up files) f).pages p page) (free_frames t)) part
          ∙ ap (λ (s : Store). with_pages s f
          (finmap.insert (stored_at s f).pages p (with_part (the_page (stored_at s f).pages p) at b)) s.free) is

      -- the table as the program has it
      module _ (held copied : List ℕ) (was : held ≡ row_at t.bytes frame.0) (new : copied ≡ b) (v : Table)
          (now : v ≡ table.accessed (record t
          { bytes = with_row t.size t.bytes frame.0 (put_mid at (at + length b - at) held copied) }) frame.0) where
        v_is : v ≡ table.accessed u frame.0
        v_is =
            let bytes : put_mid at (at + length b - at) held copied ≡ row =
            row_put at (at + length b - at) held (row_at t.bytes frame.0) copied b was new (omega arith) in
            let row_within : frame.0 < length t.bytes = let h = page_within t up files dirty s f p x there in
            omega (arith, h, s.rows) in
            now ∙ ap (λ (rows : List (List ℕ)). table.accessed (record t { bytes = rows }) frame.0)
            (ap (with_row t.size t.bytes frame.0) bytes
            ∙ with_row-whole t.size t.bytes frame.0 row s.sized row_within long)

        pub again_store : IsStore v up files dirty
        again_store = subst (λ (v : Table). IsStore v up files dirty) (sym v_is)
            (accessed_store u up files dirty frame.0 put_store its_frame_taken)

        pub again_seen : store_of v up files
            ≡ with_lists (with_pages store f
            (finmap.insert (stored_at store f).pages p (with_part (the_page (stored_at store f).pages p) at b))
            store.free) (accessed f p store.lists)
        again_seen =
            let lists : lists_of (table.accessed u frame.0) ≡ accessed f p store.lists =
            lists-accessed u put_store.sound f p frame.0 its_frame_taken (its_frame t up files dirty s f p x there)
            ∙ ap (λ (s : Store). accessed f p s.lists) is in
            ap (λ (v : Table). store_of v up files) v_is ∙ accessed_seen u up files dirty frame.0 put_store
            ∙ (λ i. with_lists (put_seen i) (lists i))
