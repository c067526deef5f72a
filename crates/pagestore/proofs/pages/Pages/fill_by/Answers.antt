use Rattle.std.proofs.Common.{arith, ap, sym, subst, refl, true, false, ◌∙◌, ◌≡◌, ◌+◌, ◌<◌, ℕ, List, [], length}
use Rattle.std.specs.Prelude.{Option, Some, None, is_some, option_map, slice_index_or, slice_set}
use Rattle.std.specs.FinMap as map
use Rattle.std.proofs.lemmas.Bool.{false≢true}
use Rattle.std.proofs.lemmas.List.{set-get_or}
use Rattle.frames.specs.Table.{Table, free_frames, is_taken, put_back, with_bytes}
use Rattle.frames.specs.Rows.{row_at, with_row}
use Rattle.frames.proofs.RowLemmas.{with_row-whole}
use Rattle.mapping.specs.Pages.{Mapped, frame_of}
use Rattle.pc_types.specs.Spots.{shown}
use Rattle.pc_types.specs.Tags.{TagSet, no_tags}
use Rattle.pc_types.specs.declared.ids.FrameId.{FrameId}
use Rattle.pagestore.specs.declared.kept.KeptFile.{KeptFile}
use Rattle.machine.specs.State.{Page}
use Rattle.pagestore.specs.Filling.{FillsBy, filled}
use Rattle.pagestore.specs.Store.{Store, IsStore, awaits, store_of, entry_at, is_awaited, stored_page, with_entry}
use Rattle.pagestore.proofs.StoreLaws.{waits_at, waiting_entry, waiting_flag, none_seen, kept_same, some_mapped}
use Rattle.pagestore.proofs.FrameEntries.{framed, framed_entry}
use Rattle.pagestore.proofs.PagePlaces.{FilePage, file_entry, file_here}
use Rattle.pagestore.proofs.StoreFacts.{page_taken, page_within, dirty_one, back_store, not_aside, changed_store, changed_seen}
use Rattle.pagestore.proofs.pages.Pages.fill_by.Goals as goal
use Rattle.pagestore.proofs.pages.Pages.fill_by.Goals.{In-Some}
use Rattle.pagestore.proofs.pages.Pages.fill_by.Given.{Over as Given}
use Rattle.mapping.proofs.ArrayLemmas.{err_is}

-- the walk found its frame
there_in : (w : FilePage) (k : KeptFile) → k ≡ slice_index_or w.pages.files.items w.file k → (frame : FrameId)
    → Some frame ≡ option_map frame_of (map.get k.mapping.pages w.page)
    → entry_at w.pages.files.items w.file w.page ≡ Some (framed (entry_at w.pages.files.items w.file w.page) frame)
there_in w k value frame found = framed_entry (entry_at w.pages.files.items w.file w.page) frame
    (found ∙ ap (λ (k : KeptFile). option_map frame_of (map.get k.mapping.pages w.page)) (file_entry w k value))

waits : (w : FilePage) → is_awaited w.store w.file w.page ≡ true
    → awaits w.pages.uptodate.items (entry_at w.pages.files.items w.file w.page) ≡ true
waits w filling = sym (waits_at w.pages.frames w.pages.uptodate.items w.pages.files.items w.file w.page)
    ∙ ap (λ (s : Store). is_awaited s w.file w.page) w.seen ∙ filling

none_there : (w : FilePage) → is_awaited w.store w.file w.page ≡ true → (k : KeptFile)
    → k ≡ slice_index_or w.pages.files.items w.file k → None ≡ option_map frame_of (map.get k.mapping.pages w.page) → ⊥
none_there w filling k value none =
    false≢true (ap is_some none ∙ some_mapped frame_of (map.get k.mapping.pages w.page)
    ∙ ap (λ (k : KeptFile). is_some (map.get k.mapping.pages w.page)) (file_entry w k value)
    ∙ waiting_entry w.pages.uptodate.items (entry_at w.pages.files.items w.file w.page) (waits w filling))

module _ (w : FilePage) (filling : is_awaited w.store w.file w.page ≡ true) (frame : FrameId)
    (there : entry_at w.pages.files.items w.file w.page
    ≡ Some (framed (entry_at w.pages.files.items w.file w.page) frame)) where
  open w use {store, file as f, page as p, kept as s, seen as is}
  open w.pages use {frames as t, dirty, uptodate.{items as up}, files.{items as files}}

  abbrev x : Mapped
  x = framed (entry_at files f p) frame

  taken : is_taken t frame.0 ≡ true
  taken = page_taken t up files dirty s f p x there

  within : frame.0 < length up
  within = let h = page_within t up files dirty s f p x there in omega (arith, h, s.flags)

  -- the frames, with what the device left in the frame
  abbrev rows : List ℕ → List (List ℕ)
  rows bytes = with_row t.size t.bytes frame.0 bytes

  flag : slice_index_or up frame.0 false ≡ false
  flag = waiting_flag up (entry_at files f p) (waits w filling) x there

  whole : (bytes : List ℕ) → length bytes ≡ t.size → rows bytes ≡ slice_set t.bytes frame.0 bytes
  whole bytes size = with_row-whole t.size t.bytes frame.0 bytes s.sized (let h = page_within t up files dirty s f p x there in let k = s.rows in omega arith) size

  -- bytes that the frame had leave all as it was
  unread : (bytes : List ℕ) → bytes ≡ row_at t.bytes frame.0 → length bytes ≡ t.size → rows bytes ≡ t.bytes
  unread bytes same size = whole bytes size ∙ ap (slice_set t.bytes frame.0) same ∙ set-get_or t.bytes frame.0 []

  -- with other bytes the page is cached
  module _ (row : List ℕ) (long : length row ≡ t.size) (u : Table)
      (u_is : u ≡ put_back (record t { bytes = rows row }) frame.0) where
    table_is : u ≡ with_bytes (put_back t frame.0) frame.0 row
    table_is = u_is ∙ (λ i. put_back (record t { bytes = whole row long i }) frame.0)

    bare : x.tags ≡ no_tags
    bare = s.bare f p x there flag

    marks : dirty + dirty_one (stored_page (store_of t up files) f p)
        ≡ dirty + dirty_one (Some (record { bytes = row; tags = x.tags }))
    marks = ap (λ (o : Option Page). dirty + dirty_one o) (none_seen t up files f p x there flag)
        ∙ ap (λ (g : TagSet). dirty + dirty_one (Some (let page : Page = record { bytes = row; tags = g } in page))) (sym bare)

    read_store : IsStore u (slice_set up frame.0 true) files dirty
    read_store =
        subst (λ (v : Table). IsStore v (slice_set up x.frame true) files dirty) (sym table_is)
        (subst (λ (fs : List KeptFile). IsStore (with_bytes (put_back t x.frame) x.frame row) (slice_set up x.frame true) fs dirty)
        (kept_same files f p x there)
        (changed_store (put_back t x.frame) up files dirty f p x (back_store t up files dirty x.frame s) (file_here w) there row
        long true x refl dirty (λ e. absurd (false≢true (sym e)))
        (λ aside. absurd (false≢true (sym (not_aside t.aside x.frame) ∙ aside))) marks))

    read_seen : store_of u (slice_set up frame.0 true) files ≡ filled store f p row
    read_seen =
        ap (λ (v : Table). store_of v (slice_set up x.frame true) files) table_is
        ∙ (λ i. store_of (with_bytes (put_back t x.frame) x.frame row) (slice_set up x.frame true)
        (sym (kept_same files f p x there) i))
        ∙ changed_seen t up files dirty f p x s (file_here w) there row long true x refl
        ∙ ap (λ (g : TagSet). with_entry (store_of t up files) f p
        (Some (let page : Page = record { bytes = row; tags = g } in page)) false (free_frames t)) bare
        ∙ ap (λ (s : Store). with_entry s f p
        (Some (let page : Page = record { bytes = row; tags = no_tags } in page)) false s.free) is

-- ---- the page, in its file

abbrev at : (g : Given) → In-Some g → FilePage
at g c = record {
  pages = c.self.inside;
  kept = c.self.invariant;
  store = c.args.self.now;
  seen = c.self.view_is;
  file = c.args.file;
  page = c.args.page;
  here = c.requires.here;
}

found : (g : Given) (c : In-Some g)
    → entry_at c.self.inside.files.items c.args.file c.args.page
    ≡ Some (framed (entry_at c.self.inside.files.items c.args.file c.args.page) c.in-Some.frame)
found g c = there_in (at g c) c.index.result.now c.index.ensures c.in-Some.frame (sym c.in-Some.is ∙ c.frame.ensures)

pub unreachable-requires : goal.unreachable-requires
unreachable-requires g c =
    let w : FilePage = record {
      pages = c.self.inside;
      kept = c.self.invariant;
      store = c.args.self.now;
      seen = c.self.view_is;
      file = c.args.file;
      page = c.args.page;
      here = c.requires.here;
    } in
    none_there w c.requires.filling c.index.result.now c.index.ensures (sym c.in_default.is ∙ c.frame.ensures)

pub bytes_mut-bytes-requires : goal.bytes_mut-bytes-requires
bytes_mut-bytes-requires g c =
    let b = (goal.at.bytes_mut-bytes-requires g c).In-Some in
    taken (at g b) c.requires.filling c.in-Some.frame (found g b)

pub put_back-requires : goal.put_back-requires
put_back-requires g c =
    let b = (goal.at.put_back-requires g c).In-Some in
    taken (at g b) c.requires.filling c.in-Some.frame (found g b)

-- what a read that failed left in the frame
kept_rows : (g : Given) (c : goal.After-from_residual g)
    → with_row c.self.inside.frames.size c.self.inside.frames.bytes c.in-Some.frame.0 c.read.new.out ≡ c.self.inside.frames.bytes
kept_rows g c =
    let b = (goal.at.invariant_of-self g c).In-Some in
    let same : c.read.new.out ≡ c.bytes_mut-bytes.result.now = c.in_err-read.ensures.reads.failed in
    unread (at g b) c.requires.filling c.in-Some.frame (found g b) c.read.new.out (same ∙ c.bytes_mut-bytes.ensures.bytes)
    (ap length same ∙ c.bytes_mut-bytes.ensures.size)

pub invariant_of-self : goal.invariant_of-self
invariant_of-self g c =
    subst (λ rs. IsStore (record c.self.inside.frames { bytes = rs }) c.self.inside.uptodate.items c.self.inside.files.items
    c.self.inside.dirty) (sym (kept_rows g c)) c.self.invariant

page_size : (g : Given) (c : In-Some g) → c.self.inside.frames.size ≡ c.args.self.now.page
page_size g c = ap (λ (s : Store). s.page) c.self.view_is

pub returns-in_err-read : goal.returns-in_err-read
returns-in_err-read g c =
    let b = (goal.at.returns-in_err-read g c).In-Some in
    let is = err_is c.from_residual.result c.in_err-read.field-0.0 c.from_residual.ensures.1 in
    let size = c.bytes_mut-bytes.ensures.size ∙ page_size g b in
    let same : c.read.new.out ≡ c.bytes_mut-bytes.result.now = c.in_err-read.ensures.reads.failed in
    subst (λ r. FillsBy c.args.self.now c.args.file c.args.page c.args.device.now c.args.block.0 c.args.valid r
    (store_of (record c.self.inside.frames {
      bytes = with_row c.self.inside.frames.size c.self.inside.frames.bytes c.in-Some.frame.0
          c.read.new.out;
    }) c.self.inside.uptodate.items c.self.inside.files.items) c.read.new.self) (sym is)
    (record {
      before = c.bytes_mut-bytes.result.now;
      after = c.read.new.out;
      size = (size, ap length same ∙ size);
      reads = c.in_err-read.ensures.reads;
      unflushed = c.in_err-read.ensures.unflushed;
      done = tt;
      failed = ap (λ rs. store_of (record c.self.inside.frames { bytes = rs }) c.self.inside.uptodate.items c.self.inside.files.items)
          (kept_rows g c) ∙ c.self.view_is;
    })

pub invariant_of-self-2 : goal.invariant_of-self-2
invariant_of-self-2 g c =
    let b = (goal.at.invariant_of-self-2 g c).In-Some in
    let long = c.zero_past.auto.bytes ∙ c.read.auto.out ∙ c.bytes_mut-bytes.ensures.size in
    read_store (at g b) c.requires.filling c.in-Some.frame (found g b) c.zero_past.new.bytes long c.put_back.new.self c.put_back.ensures

pub returns : goal.returns
returns g c =
    let b = (goal.at.returns g c).In-Some in
    let long = c.read.auto.out ∙ c.bytes_mut-bytes.ensures.size in
    let shows = c.zero_past.ensures ∙ ap (λ n. shown n c.args.valid c.read.new.out) (long ∙ page_size g b) in
    record {
      before = c.bytes_mut-bytes.result.now;
      after = c.read.new.out;
      size = (c.bytes_mut-bytes.ensures.size ∙ page_size g b, long ∙ page_size g b);
      reads = c.in_ok-read.ensures.reads;
      unflushed = c.in_ok-read.ensures.unflushed;
      done = read_seen (at g b) c.requires.filling c.in-Some.frame (found g b) c.zero_past.new.bytes (c.zero_past.auto.bytes ∙ long)
          c.put_back.new.self c.put_back.ensures ∙ ap (filled c.args.self.now c.args.file c.args.page) shows;
      failed = tt;
    }
