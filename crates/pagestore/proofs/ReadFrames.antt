-- A page whose frame is known, as a read finds it: whether it is cached, its bytes, and the store once it was accessed.
use Rattle.std.proofs.Common.{◌≡◌, ◌<◌, Bool, List, cond, true, false, not, ap, sym, subst, ◌∙◌, refl, arith}
use Rattle.std.specs.Prelude.{Some, None, is_some, option_map, slice_index_or, length}
use Rattle.std.specs.FinMap as finmap
use Rattle.pc_types.specs.declared.ids.FrameId.{FrameId}
use Rattle.frames.specs.Table as table
use Rattle.frames.specs.Table.{is_taken, owner_of}
use Rattle.frames.specs.Rows.{row_at}
use Rattle.mapping.specs.Pages.{Mapped, frame_of}
use Rattle.mapping.proofs.PageLemmas.{none_framed}
use Rattle.pagestore.specs.declared.kept.KeptFile.{KeptFile}
use Rattle.machine.specs.PageLists.{accessed}
use Rattle.machine.specs.State.{Page}
use Rattle.pagestore.specs.Store.{the_page, Store, IsStore, awaits, has_page, is_awaited, is_uptodate, store_of, kept_at}
use Rattle.pagestore.specs.Store.{entry_at, stored_at, stored_page, with_lists}
use Rattle.pagestore.proofs.StoreLaws.{cached_at, page_seen, none_seen, waits_at}
use Rattle.pagestore.proofs.PagePlaces.{FilePage, file_entry, file_here}
use Rattle.pagestore.proofs.StoreFacts.{page_taken, page_within, the_page_is, accessed_seen, accessed_store}
use Rattle.pagestore.proofs.FrameEntries.{framed, framed_entry}
use Rattle.pagestore.proofs.ListedFrames.{lists-accessed}
use Rattle.pagestore.proofs.Owners.{entry_of, its_frame}

module _ (w : FilePage) where
  open w use {store, file as f, page as p, kept as s, seen as is}
  open w.pages use {frames as t, dirty, uptodate.{items as up}, files.{items as files}}

  here : f < length files
  here = file_here w

  -- the frame was taken for the page
  pub owned_entry : (frame : FrameId) → owner_of t frame.0 ≡ Some (record { 0 = f }, record { 0 = p })
      → entry_at files f p ≡ Some (framed (entry_at files f p) frame)
  owned_entry frame own =
      let its = entry_of t up files dirty s frame.0 f p own in
      framed_entry (entry_at files f p) frame
      ((λ i. Some (record { 0 = sym its.2 i })) ∙ ap (option_map frame_of) (sym its.1))

  -- k is file f, and a walk found no frame or this one
  module _ (k : KeptFile) (value : k ≡ slice_index_or files f k) where
    entry : k ≡ kept_at files f
    entry = file_entry w k value

    pub walked_none : None ≡ option_map frame_of (finmap.get k.mapping.pages p)
        → false ≡ is_some (stored_page store f p)
    walked_none none =
        let absent =
        none_framed (entry_at files f p)
        (none ∙ ap (λ (k : KeptFile). option_map frame_of (finmap.get k.mapping.pages p)) entry) in
        sym (ap (has_page up) absent) ∙ cached_at t up files f p ∙ ap (λ (s : Store). is_some (stored_page s f p)) is

    -- it is not filling either
    pub walked_idle : None ≡ option_map frame_of (finmap.get k.mapping.pages p) → is_awaited store f p ≡ false
    walked_idle none =
        let absent =
        none_framed (entry_at files f p)
        (none ∙ ap (λ (k : KeptFile). option_map frame_of (finmap.get k.mapping.pages p)) entry) in
        ap (λ (s : Store). is_awaited s f p) (sym is) ∙ waits_at t up files f p ∙ ap (awaits up) absent

    pub walked_entry : (frame : FrameId) → Some frame ≡ option_map frame_of (finmap.get k.mapping.pages p)
        → entry_at files f p ≡ Some (framed (entry_at files f p) frame)
    walked_entry frame found =
        framed_entry (entry_at files f p) frame
        (found ∙ ap (λ (k : KeptFile). option_map frame_of (finmap.get k.mapping.pages p)) entry)

  module _ (frame : FrameId) (there : entry_at files f p ≡ Some (framed (entry_at files f p) frame)) where
    abbrev x : Mapped
    x = framed (entry_at files f p) frame

    pub frame_taken : is_taken t frame.0 ≡ true
    frame_taken = page_taken t up files dirty s f p x there

    pub frame_flagged : frame.0 < length up
    frame_flagged = let h = page_within t up files dirty s f p x there in omega (arith, h, s.flags)

    pub frame_cached : slice_index_or up frame.0 false ≡ is_some (stored_page store f p)
    frame_cached = elim (is_uptodate up x) as (λ b. is_uptodate up x ≡ b → b ≡ is_some (stored_page store f p)) [
      | true ↦ λ e. sym (ap is_some (sym (ap (λ (s : Store). stored_page s f p) is)
          ∙ page_seen t up files f p x there e))
      | false ↦ λ e. sym (ap is_some
          (sym (ap (λ (s : Store). stored_page s f p) is) ∙ none_seen t up files f p x there e))
    ] refl

    pub frame_bytes : slice_index_or up frame.0 false ≡ true
        → row_at t.bytes frame.0 ≡ (the_page (stored_at store f).pages p).bytes
    frame_bytes ready =
        sym (ap (λ (page : Page). page.bytes) (sym (ap (λ (s : Store). the_page (stored_at s f).pages p) is)
        ∙ the_page_is t up files dirty f p x s here there ready))

    -- a read of the frame told its flag, by the flags of all frames
    module _ (ready : Bool) (flags : List Bool) (told : ready ≡ slice_index_or flags frame.0 false) (same : flags ≡ up) where
      flag_is : ready ≡ slice_index_or up frame.0 false
      flag_is = told ∙ ap (λ (u : List Bool). slice_index_or u frame.0 false) same

      pub read_stops : (b : Bool) → ready ≡ b
          → cond b None (Some p) ≡ cond (not (is_some (stored_page store f p))) (Some p) None
      read_stops true e = sym (ap (λ b. cond (not b) (Some p) None) (sym frame_cached ∙ sym flag_is ∙ e))
      read_stops false e = sym (ap (λ b. cond (not b) (Some p) None) (sym frame_cached ∙ sym flag_is ∙ e))

      pub read_waits : ready ≡ false → is_awaited store f p ≡ true
      read_waits unready =
          ap (λ (s : Store). is_awaited s f p) (sym is) ∙ waits_at t up files f p ∙ ap (awaits up) there
          ∙ ap not (sym flag_is ∙ unready)

      pub read_bytes : ready ≡ true → row_at t.bytes frame.0 ≡ (the_page (stored_at store f).pages p).bytes
      read_bytes e = frame_bytes (sym flag_is ∙ e)

    pub read_seen : store_of (table.accessed t frame.0) up files
        ≡ with_lists store (accessed f p store.lists)
    read_seen =
        accessed_seen t up files dirty frame.0 s
        ∙ ap (with_lists (store_of t up files))
        (lists-accessed t s.sound f p frame.0 frame_taken (its_frame t up files dirty s f p x there))
        ∙ ap (λ (s : Store). with_lists s (accessed f p s.lists)) is

    -- what was read, if anything was, keeps what the store keeps
    pub read_store : (u : table.Table) (read : Bool) → (read ≡ true → u ≡ table.accessed t frame.0)
        → (read ≡ false → u ≡ t) → IsStore u up files dirty
    read_store u true moved same = subst (λ (u : table.Table). IsStore u up files dirty) (sym (moved refl))
        (accessed_store t up files dirty frame.0 s frame_taken)
    read_store u false moved same = subst (λ (u : table.Table). IsStore u up files dirty) (sym (same refl)) s
