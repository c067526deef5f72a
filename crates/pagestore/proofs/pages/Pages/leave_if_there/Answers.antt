use Rattle.std.proofs.Common.{arith, ap, cond, sym, subst, false, List, ◌∙◌, ◌≡◌, ◌≤◌, ◌+◌, ◌-◌}
use Rattle.std.specs.Prelude.{Some, None, is_some, ◌||◌, slice_index_or, slice_set}
use Rattle.std.specs.Int.{from_bool}
use Rattle.std.specs.FinMap as map
use Rattle.std.specs.FinSet as set
use Rattle.std.proofs.lemmas.Bool.{false≢true, or_left, or_right}
use Rattle.frames.specs.Table.{Table, free_frames}
use Rattle.mapping.specs.Pages.{FilePages, Mapped, seen}
use Rattle.pagestore.specs.declared.kept.KeptFile.{KeptFile}
use Rattle.pagestore.specs.Store.{Store, IsStore, store_of, entry_at, kept_at, stored_at, stored_page, is_awaited}
use Rattle.pagestore.specs.Store.{lists_of, with_entry, with_pages, with_lists}
use Rattle.pagestore.proofs.StoreLaws.{with_kept, none_same, cached_idle, waiting_absent, entry_page, entry_wait}
use Rattle.pagestore.proofs.FirstFrom.{is_there}
use Rattle.pagestore.proofs.PagePlaces.{FilePage, file_entry, file_here}
use Rattle.pagestore.proofs.StoreFacts.{left_store, left_seen, dirty_least, page_taken, byte_is}
use Rattle.machine.specs.PageLists.{left}
use Rattle.pagestore.proofs.ListedFrames.{lists-given}
use Rattle.pagestore.proofs.Owners.{its_frame}
use Rattle.pagestore.proofs.pages.Pages.leave_if_there.Goals as goal
use Rattle.pagestore.proofs.pages.Pages.leave_if_there.Goals.{After-self, In_default}

abbrev at : After-self → FilePage
at c = record {
  pages = c.self.inside;
  kept = c.self.invariant;
  store = c.args.self.now;
  seen = c.self.view_is;
  file = c.args.file;
  page = c.args.page;
  here = c.requires;
}

there_in : (w : FilePage) (k : KeptFile) → k ≡ slice_index_or w.pages.files.items w.file k → (x : Mapped)
    → Some x ≡ map.get k.mapping.pages w.page → entry_at w.pages.files.items w.file w.page ≡ Some x
there_in w k value x found = sym (found ∙ ap (λ (k : KeptFile). map.get k.mapping.pages w.page) (file_entry w k value))

least : (w : FilePage) (x : Mapped) → entry_at w.pages.files.items w.file w.page ≡ Some x
    → cond x.tags.dirty 1 0 ≤ w.pages.dirty
least w x there = dirty_least w.pages.frames w.pages.uptodate.items w.pages.files.items w.pages.dirty w.file w.page x
    w.kept (file_here w) there

gone : (c : goal.After-give) → (let now : KeptFile =
    record c.index_mut.result.now { mapping = c.take_page.new.self } in
    now ≡ with_kept (kept_at c.self.inside.files.items c.args.file) c.args.page None)
gone c =
    ap (λ (m : FilePages). let k : KeptFile = record c.index_mut.result.now { mapping = m } in k)
    c.take_page.ensures.gone ∙ ap (λ (k : KeptFile). with_kept k c.args.page None)
    (file_entry (at (goal.at.invariant_of-self-2 c).After-self) c.index_mut.result.now c.index_mut.ensures.value)

-- whether its page was cached or awaited
seen_left : (c : goal.After-give) → (let t = c.self.inside.frames in let up = c.self.inside.uptodate.items in
    let files = c.self.inside.files.items in
    store_of c.give.new.self up
    (slice_set files c.args.file (record c.index_mut.result.now { mapping = c.take_page.new.self }))
    ≡ with_lists (with_entry (store_of t up files) c.args.file c.args.page None false (free_frames t + 1))
    (left c.args.file c.args.page (lists_of t)))
seen_left c =
    let t = c.self.inside.frames in
    let up = c.self.inside.uptodate.items in
    let files = c.self.inside.files.items in
    let dirty = c.self.inside.dirty in
    let s = c.self.invariant in
    let f = c.args.file in
    let p = c.args.page in
    let w = at (goal.at.invariant_of-self-2 c).After-self in
    let x = seen c.in-Some.mapped in
    let there = there_in w c.index_mut.result.now c.index_mut.ensures.value x c.in-Some.ensures.page in
    (λ i. store_of (c.give.ensures i) up (slice_set files f (gone c i)))
    ∙ left_seen t up files dirty f p x s (file_here w) there
    ∙ ap (with_lists (with_entry (store_of t up files) f p None false (free_frames t + 1)))
    (lists-given t c.self.invariant.sound f p x.frame (page_taken t up files dirty s f p x there)
    (its_frame t up files dirty s f p x there))

-- ---- no page was there

abbrev at_default : In_default → FilePage
at_default c = record {
  pages = c.self.inside;
  kept = c.self.invariant;
  store = c.args.self.now;
  seen = c.self.view_is;
  file = c.args.file;
  page = c.args.page;
  here = c.requires;
}

none_in : (c : In_default) → entry_at c.self.inside.files.items c.args.file c.args.page ≡ None
none_in c =
    sym (c.in_default.ensures.page
    ∙ ap (λ (k : KeptFile). map.get k.mapping.pages c.args.page)
    (file_entry (at_default c) c.index_mut.result.now c.index_mut.ensures.value))

-- the files are as before
files_kept : (c : In_default) → slice_set c.self.inside.files.items c.args.file (record c.index_mut.result.now { mapping = c.take_page.new.self }) ≡ c.self.inside.files.items
files_kept c =
    let files = c.self.inside.files.items in
    let f = c.args.file in
    ap (λ (m : FilePages). let k : KeptFile = record c.index_mut.result.now { mapping = m } in slice_set files f k)
    c.take_page.ensures.gone
    ∙ ap (λ (k : KeptFile). slice_set files f (with_kept k c.args.page None))
    (file_entry (at_default c) c.index_mut.result.now c.index_mut.ensures.value)
    ∙ none_same files f c.args.page (none_in c)

pub invariant_of-self : goal.invariant_of-self
invariant_of-self c =
    subst (λ (fs : List KeptFile). IsStore c.self.inside.frames c.self.inside.uptodate.items fs c.self.inside.dirty)
    (sym (files_kept (goal.at.invariant_of-self c).In_default)) c.self.invariant

absent : (c : In_default) → (is_some (stored_page c.args.self.now c.args.file c.args.page)
    || is_awaited c.args.self.now c.args.file c.args.page) ≡ false
absent c =
    let f = c.args.file in
    let p = c.args.page in
    ap (λ (s : Store). is_some (stored_page s f p) || is_awaited s f p) (sym c.self.view_is)
    ∙ is_there c.self.inside.frames c.self.inside.uptodate.items c.self.inside.files.items f 0 None p (none_in c)

pub returns-in_default-clause-there : goal.returns-in_default-clause-there
returns-in_default-clause-there c = sym (absent (goal.at.returns-in_default-clause-there c).In_default)

pub returns-in_default-clause-page : goal.returns-in_default-clause-page
returns-in_default-clause-page c = λ cached.
    absurd (false≢true (sym (absent (goal.at.returns-in_default-clause-page c).In_default)
    ∙ or_left (is_some (stored_page c.args.self.now c.args.file c.args.page))
    (is_awaited c.args.self.now c.args.file c.args.page) cached))

pub returns-in_default-clause-fill : goal.returns-in_default-clause-fill
returns-in_default-clause-fill c = λ waits.
    absurd (false≢true (sym (absent (goal.at.returns-in_default-clause-fill c).In_default)
    ∙ or_right (is_some (stored_page c.args.self.now c.args.file c.args.page))
    (is_awaited c.args.self.now c.args.file c.args.page) waits))

pub returns-in_default-clause-same : goal.returns-in_default-clause-same
returns-in_default-clause-same c = λ _.
    ap (λ (fs : List KeptFile). store_of c.self.inside.frames c.self.inside.uptodate.items fs)
    (files_kept (goal.at.returns-in_default-clause-same c).In_default) ∙ c.self.view_is

-- ---- a page was there

pub overflow_sub-self : goal.overflow_sub-self
overflow_sub-self c =
    let w = at (goal.at.overflow_sub-self c).After-self in
    let x = seen c.in-Some.mapped in
    let there = there_in w c.index_mut.result.now c.index_mut.ensures.value x c.in-Some.ensures.page in
    let one = c.from.ensures ∙ ap from_bool c.has.ensures ∙ byte_is x.tags.dirty in
    omega (arith, one, least w x there)

pub give-requires : goal.give-requires
give-requires c =
    let w = at (goal.at.give-requires c).After-self in
    let x = seen c.in-Some.mapped in
    let there = there_in w c.index_mut.result.now c.index_mut.ensures.value x c.in-Some.ensures.page in
    page_taken c.self.inside.frames c.self.inside.uptodate.items c.self.inside.files.items c.self.inside.dirty
    c.self.invariant c.args.file c.args.page x there

pub invariant_of-self-2 : goal.invariant_of-self-2
invariant_of-self-2 c =
    let t = c.self.inside.frames in
    let up = c.self.inside.uptodate.items in
    let files = c.self.inside.files.items in
    let f = c.args.file in
    let now = c.self.inside.dirty - c.from.result in
    let w = at (goal.at.invariant_of-self-2 c).After-self in
    let x = seen c.in-Some.mapped in
    let there = there_in w c.index_mut.result.now c.index_mut.ensures.value x c.in-Some.ensures.page in
    let one = c.from.ensures ∙ ap from_bool c.has.ensures ∙ byte_is x.tags.dirty in
    subst (λ (k : KeptFile). IsStore c.give.new.self up (slice_set files f k) now) (sym (gone c))
    (subst (λ (u : Table). IsStore u up (slice_set files f (with_kept (kept_at files f) c.args.page None)) now)
    (sym c.give.ensures)
    (left_store t up files c.self.inside.dirty f c.args.page x c.self.invariant (file_here w) there now
    (omega (arith, one, least w x there))))

pub returns-clause-page : goal.returns-clause-page
returns-clause-page c = λ cached.
    let t = c.self.inside.frames in
    let up = c.self.inside.uptodate.items in
    let files = c.self.inside.files.items in
    let f = c.args.file in
    let p = c.args.page in
    let was = ap (λ (s : Store). is_some (stored_page s f p)) c.self.view_is ∙ cached in
    seen_left c
    ∙ ap (λ (s : Store). with_lists s (left f p (lists_of t)))
    (entry_page (store_of t up files) f p None (free_frames t + 1) (cached_idle t up files f p was))
    ∙ ap (λ (s : Store). with_lists (with_pages s f (map.remove (stored_at s f).pages p) (s.free + 1))
    (left f p s.lists)) c.self.view_is

pub returns-clause-fill : goal.returns-clause-fill
returns-clause-fill c = λ waits.
    let t = c.self.inside.frames in
    let up = c.self.inside.uptodate.items in
    let files = c.self.inside.files.items in
    let f = c.args.file in
    let p = c.args.page in
    let was = ap (λ (s : Store). is_awaited s f p) c.self.view_is ∙ waits in
    seen_left c
    ∙ ap (λ (s : Store). with_lists s (left f p (lists_of t)))
    (entry_wait (store_of t up files) f p false (free_frames t + 1) (waiting_absent t up files f p was))
    ∙ ap (λ (s : Store). let u : Store =
    record s { filling = set.remove s.filling (f, p); free = s.free + 1; lists = left f p s.lists } in u)
    c.self.view_is

pub returns-clause-there : goal.returns-clause-there
returns-clause-there c =
    let t = c.self.inside.frames in
    let up = c.self.inside.uptodate.items in
    let files = c.self.inside.files.items in
    let f = c.args.file in
    let p = c.args.page in
    let w = at (goal.at.returns-clause-there c).After-self in
    let x = seen c.in-Some.mapped in
    let is = there_in w c.index_mut.result.now c.index_mut.ensures.value x c.in-Some.ensures.page in
    sym (ap (λ (s : Store). is_some (stored_page s f p) || is_awaited s f p) (sym c.self.view_is)
    ∙ is_there t up files f 0 (Some x) p is)
