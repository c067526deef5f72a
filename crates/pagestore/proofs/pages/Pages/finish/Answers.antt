use Rattle.std.proofs.Common.{arith, ap, sym, subst, refl, true, false, ◌∙◌, ◌≡◌, ℕ, List, length}
use Rattle.std.specs.Prelude.{Some, is_some, option_map, slice_index_or, slice_set}
use Rattle.std.specs.FinMap as map
use Rattle.std.proofs.lemmas.Bool.{false≢true}
use Rattle.frames.specs.Table.{Table, free_frames, is_taken, put_back, with_bytes}
use Rattle.frames.specs.Rows.{laid}
use Rattle.frames.proofs.RowLemmas.{length-laid}
use Rattle.mapping.specs.Pages.{frame_of}
use Rattle.pc_types.specs.Tags.{TagSet, no_tags}
use Rattle.pc_types.specs.declared.ids.FrameId.{FrameId}
use Rattle.pagestore.specs.declared.kept.KeptFile.{KeptFile}
use Rattle.machine.specs.State.{Page}
use Rattle.pagestore.specs.Store.{Store, IsStore, awaits, store_of, entry_at, is_awaited, with_entry}
use Rattle.pagestore.proofs.StoreLaws.{waits_at, waiting_entry, waiting_flag, none_seen, kept_same, some_mapped}
use Rattle.pagestore.proofs.FrameEntries.{framed, framed_entry}
use Rattle.pagestore.proofs.PagePlaces.{FilePage, file_entry, file_here}
use Rattle.pagestore.proofs.StoreFacts.{page_taken, page_within, dirty_one, back_store, not_aside, changed_store, changed_seen}
use Rattle.pagestore.proofs.pages.Pages.finish.Goals as goal
use Rattle.pagestore.proofs.pages.Pages.finish.Goals.{After-self}

abbrev at : After-self → FilePage
at c = record {
  pages = c.self.inside;
  kept = c.self.invariant;
  store = c.args.self.now;
  seen = c.self.view_is;
  file = c.args.file;
  page = c.args.page;
  here = c.requires.here;
}

-- the walk found its frame
there_in : (w : FilePage) (k : KeptFile) → k ≡ slice_index_or w.pages.files.items w.file k → (frame : FrameId)
    → Some frame ≡ option_map frame_of (map.get k.mapping.pages w.page)
    → entry_at w.pages.files.items w.file w.page ≡ Some (framed (entry_at w.pages.files.items w.file w.page) frame)
there_in w k value frame found = framed_entry (entry_at w.pages.files.items w.file w.page) frame
    (found ∙ ap (λ (k : KeptFile). option_map frame_of (map.get k.mapping.pages w.page)) (file_entry w k value))

waits : (w : FilePage) → is_awaited w.store w.file w.page ≡ true
    → awaits w.pages.uptodate.items (entry_at w.pages.files.items w.file w.page) ≡ true
waits w filling = sym (waits_at w.pages.frames w.pages.uptodate.items w.pages.files.items w.file w.page)
    ∙ ap (λ (s : Store). is_awaited s w.file w.page) w.seen ∙ filling

-- the row that is written
abbrev row : After-self → List ℕ
row c = laid c.self.inside.frames.size c.args.at c.args.bytes.now

long : (c : After-self) → length (row c) ≡ c.self.inside.frames.size
long c = length-laid c.self.inside.frames.size c.args.at c.args.bytes.now
    (omega (arith, c.requires.inside, ap (λ (s : Store). s.page) c.self.view_is))

-- the frames after it
laid_is : (t u v : Table) (frame at : ℕ) (b : List ℕ) → u ≡ put_back t frame
    → v ≡ with_bytes u frame (laid u.size at b) → v ≡ with_bytes (put_back t frame) frame (laid t.size at b)
laid_is t u v frame at b back lay = lay ∙ ap (λ (t : Table). with_bytes t frame (laid t.size at b)) back

pub unreachable-requires : goal.unreachable-requires
unreachable-requires c =
    let w = at (goal.at.unreachable-requires c).After-self in
    let k = c.index.result.now in
    false≢true (ap is_some c.in_default.ensures ∙ some_mapped frame_of (map.get k.mapping.pages c.args.page)
    ∙ ap (λ (k : KeptFile). is_some (map.get k.mapping.pages c.args.page)) (file_entry w k c.index.ensures)
    ∙ waiting_entry c.self.inside.uptodate.items (entry_at c.self.inside.files.items c.args.file c.args.page)
    (waits w c.requires.filling))

-- its frame is taken
taken_there : (w : FilePage) (k : KeptFile) → k ≡ slice_index_or w.pages.files.items w.file k → (frame : FrameId)
    → Some frame ≡ option_map frame_of (map.get k.mapping.pages w.page) → is_taken w.pages.frames frame.0 ≡ true
taken_there w k value frame found =
    page_taken w.pages.frames w.pages.uptodate.items w.pages.files.items w.pages.dirty w.kept w.file w.page
    (framed (entry_at w.pages.files.items w.file w.page) frame) (there_in w k value frame found)

pub put_back-requires : goal.put_back-requires
put_back-requires c = taken_there (at (goal.at.put_back-requires c).After-self) c.index.result.now c.index.ensures
    c.in-Some.frame c.in-Some.ensures

pub lay-requires-clause-taken : goal.lay-requires-clause-taken
lay-requires-clause-taken c =
    ap (λ (t : Table). is_taken t c.in-Some.frame.0) c.put_back.ensures
    ∙ taken_there (at (goal.at.lay-requires-clause-taken c).After-self) c.index.result.now c.index.ensures
    c.in-Some.frame c.in-Some.ensures

pub lay-requires-clause-inside : goal.lay-requires-clause-inside
lay-requires-clause-inside c = omega (
  arith,
  c.requires.inside,
  ap (λ (s : Store). s.page) c.self.view_is,
  ap (λ (t : Table). t.size) c.put_back.ensures,
)

pub index_mut-requires : goal.index_mut-requires
index_mut-requires c =
    let w = at (goal.at.index_mut-requires c).After-self in
    let i = c.self.inside in
    let x = framed (entry_at i.files.items c.args.file c.args.page) c.in-Some.frame in
    let there = there_in w c.index.result.now c.index.ensures c.in-Some.frame c.in-Some.ensures in
    let within = page_within i.frames i.uptodate.items i.files.items i.dirty c.self.invariant c.args.file c.args.page x
    there in
    omega (arith, within, c.self.invariant.flags)

pub invariant_of-self : goal.invariant_of-self
invariant_of-self c =
    let t = c.self.inside.frames in
    let up = c.self.inside.uptodate.items in
    let files = c.self.inside.files.items in
    let dirty = c.self.inside.dirty in
    let s = c.self.invariant in
    let f = c.args.file in
    let p = c.args.page in
    let w = at (goal.at.invariant_of-self c).After-self in
    let x = framed (entry_at files f p) c.in-Some.frame in
    let there = there_in w c.index.result.now c.index.ensures c.in-Some.frame c.in-Some.ensures in
    let flag = waiting_flag up (entry_at files f p) (waits w c.requires.filling) x there in
    let bare = s.bare f p x there flag in
    let its_row = row (goal.at.invariant_of-self c).After-self in
    let clean = ap dirty_one (none_seen t up files f p x there flag) in
    let marks : dirty_one (Some (let page : Page = record { bytes = its_row; tags = x.tags } in page)) ≡ 0 =
    ap (λ (g : TagSet). dirty_one (Some (let page : Page = record { bytes = its_row; tags = g } in page))) bare in
    let u = put_back t x.frame in
    subst (λ (v : Table). IsStore v (slice_set up x.frame true) files dirty)
    (sym (laid_is t c.put_back.new.self c.lay.new.self c.in-Some.frame.0 c.args.at c.args.bytes.now c.put_back.ensures
    c.lay.ensures))
    (subst (λ (fs : List KeptFile). IsStore (with_bytes u x.frame its_row) (slice_set up x.frame true) fs dirty)
    (kept_same files f p x there)
    (changed_store u up files dirty f p x (back_store t up files dirty x.frame s) (file_here w) there its_row
    (long (goal.at.invariant_of-self c).After-self) true x refl dirty (λ e. absurd (false≢true (sym e)))
    (λ aside. absurd (false≢true (sym (not_aside t.aside x.frame) ∙ aside))) (omega (arith, clean, marks))))

pub returns : goal.returns
returns c =
    let t = c.self.inside.frames in
    let up = c.self.inside.uptodate.items in
    let files = c.self.inside.files.items in
    let dirty = c.self.inside.dirty in
    let s = c.self.invariant in
    let f = c.args.file in
    let p = c.args.page in
    let b = c.args.bytes.now in
    let w = at (goal.at.returns c).After-self in
    let x = framed (entry_at files f p) c.in-Some.frame in
    let there = there_in w c.index.result.now c.index.ensures c.in-Some.frame c.in-Some.ensures in
    let flag = waiting_flag up (entry_at files f p) (waits w c.requires.filling) x there in
    let bare = s.bare f p x there flag in
    let its_row = row (goal.at.returns c).After-self in
    ap (λ (v : Table). store_of v (slice_set up x.frame true) files)
    (laid_is t c.put_back.new.self c.lay.new.self c.in-Some.frame.0 c.args.at c.args.bytes.now c.put_back.ensures
    c.lay.ensures)
    ∙ (λ i. store_of (with_bytes (put_back t x.frame) x.frame its_row) (slice_set up x.frame true)
    (sym (kept_same files f p x there) i))
    ∙ changed_seen t up files dirty f p x s (file_here w) there its_row (long (goal.at.returns c).After-self) true x refl
    ∙ ap (λ (g : TagSet). with_entry (store_of t up files) f p
    (Some (let page : Page = record { bytes = its_row; tags = g } in page)) false (free_frames t)) bare
    ∙ ap (λ (s : Store). with_entry s f p
    (Some (let page : Page = record { bytes = laid s.page c.args.at b; tags = no_tags } in page)) false s.free)
    c.self.view_is
