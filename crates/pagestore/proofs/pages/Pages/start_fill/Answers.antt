use Rattle.std.proofs.Common.{true, false, ap, sym, subst, ◌∙◌, ◌≡◌, ◌-◌, List}
use Rattle.std.specs.Prelude.{Some, None, slice_set}
use Rattle.std.specs.FinMap as map
use Rattle.std.specs.FinSet as set
use Rattle.std.proofs.lemmas.List.{set-get_or}
use Rattle.frames.specs.Table.{Table, free_frames, taken, given}
use Rattle.mapping.specs.Pages.{FilePages, untagged}
use Rattle.pagestore.specs.declared.kept.KeptFile.{KeptFile}
use Rattle.pagestore.specs.Store.{Store, IsStore, store_of, none_kept, entry_at, kept_at, stored_page, is_awaited}
use Rattle.pagestore.specs.Store.{lists_of, with_lists}
use Rattle.pagestore.proofs.PairLemmas.{when_err, when_ok}
use Rattle.pagestore.proofs.StoreLaws.{with_kept, no_entry, entry_wait}
use Rattle.pagestore.proofs.PagePlaces.{FilePage, file_entry, file_here}
use Rattle.pagestore.proofs.StoreFacts.{entered_store, entered_seen, unmade_store, unmade_seen}
use Rattle.machine.specs.PageLists.{PageLists, is_listed, entered}
use Rattle.pagestore.proofs.ListedFrames.{lists-taken, lists-untaken, unlisted}
use Rattle.pagestore.proofs.Owners.{no_frame}
use Rattle.pagestore.proofs.pages.Pages.start_fill.Goals as goal
use Rattle.pagestore.proofs.pages.Pages.start_fill.Goals.{After-self}

abbrev at : After-self → FilePage
at c = record {
  pages = c.self.inside;
  kept = c.self.invariant;
  store = c.args.self.now;
  seen = c.self.view_is;
  file = c.args.file;
  page = c.args.page;
  here = c.requires.here;
}

absent : (c : After-self) → entry_at c.self.inside.files.items c.args.file c.args.page ≡ None
absent c = no_entry c.self.inside.frames c.self.inside.uptodate.items c.self.inside.files.items c.args.file c.args.page
    (ap (λ (s : Store). stored_page s c.args.file c.args.page) c.self.view_is ∙ c.requires.absent)
    (ap (λ (s : Store). is_awaited s c.args.file c.args.page) c.self.view_is ∙ c.requires.idle)

-- ---- where no memory is left

back : (c : goal.After-give) → c.give.new.self
    ≡ given (taken c.self.inside.frames c.in-Ok.frame.0 (record { 0 = c.args.file }, record { 0 = c.args.page }))
    c.in-Ok.frame.0
back c = c.give.ensures ∙ ap (λ (u : Table). given u c.in-Ok.frame.0) c.in-Ok.ensures.taken

same_files : (c : goal.After-give) → (let k = c.index_mut.result.now in
    slice_set c.self.inside.files.items c.args.file (record k { mapping = c.insert_page.new.self })
    ≡ c.self.inside.files.items)
same_files c =
    let files = c.self.inside.files.items in
    let k = c.index_mut.result.now in
    let same : c.insert_page.new.self ≡ k.mapping =
    when_err c.insert_page.result _ c.if-is_err.ensures.value c.insert_page.ensures.same in
    ap (λ (m : FilePages). slice_set files c.args.file (record k { mapping = m })) same
    ∙ ap (slice_set files c.args.file)
    (file_entry (at (goal.at.invariant_of-self c).After-self) k c.index_mut.ensures.value)
    ∙ set-get_or files c.args.file none_kept

pub invariant_of-self : goal.invariant_of-self
invariant_of-self c =
    let i = c.self.inside in
    let low = c.in-Ok.ensures.lowest in
    subst (λ (fs : List KeptFile). IsStore c.give.new.self i.uptodate.items fs i.dirty) (sym (same_files c))
    (subst (λ (u : Table). IsStore u i.uptodate.items i.files.items i.dirty) (sym (back c))
    (unmade_store i.frames i.uptodate.items i.files.items i.dirty c.args.file c.args.page c.in-Ok.frame.0
    c.self.invariant low.here low.within))

pub returns-then-is_err-clause-err : goal.returns-then-is_err-clause-err
returns-then-is_err-clause-err c =
    let t = c.self.inside.frames in
    let up = c.self.inside.uptodate.items in
    let files = c.self.inside.files.items in
    let f = c.args.file in
    let p = c.args.page in
    let low = c.in-Ok.ensures.lowest in
    (λ i. store_of (back c i) up (same_files c i))
    ∙ unmade_seen t up files c.self.inside.dirty f p c.in-Ok.frame.0 c.self.invariant low.here low.within
    ∙ ap (with_lists (store_of t up files))
    (lists-untaken t c.self.invariant.sound f p c.in-Ok.frame.0 low.here low.within)
    ∙ c.self.view_is

-- ---- where the page is entered

entered_file : (c : goal.After-self-2-1) → (let k = c.index_mut.result.now in
    let now : KeptFile = record k { mapping = c.insert_page.new.self } in
    now ≡ with_kept (kept_at c.self.inside.files.items c.args.file) c.args.page (Some (untagged c.in-Ok.frame.0)))
entered_file c =
    let k = c.index_mut.result.now in
    let page = Some (untagged c.in-Ok.frame.0) in
    let done : c.insert_page.new.self ≡ record k.mapping
    { pages = map.insert k.mapping.pages c.args.page (untagged c.in-Ok.frame.0) } =
    when_ok c.insert_page.result _ c.if-is_err.ensures.value c.insert_page.ensures.done in
    ap (λ (m : FilePages). let n : KeptFile = record k { mapping = m } in n) done
    ∙ ap (λ (k : KeptFile). with_kept k c.args.page page)
    (file_entry (at (goal.at.invariant_of-self-2 c).After-self) k c.index_mut.ensures.value)

pub invariant_of-self-2 : goal.invariant_of-self-2
invariant_of-self-2 c =
    let t = c.self.inside.frames in
    let up = c.self.inside.uptodate.items in
    let files = c.self.inside.files.items in
    let f = c.args.file in
    let p = c.args.page in
    let dirty = c.self.inside.dirty in
    let fr = c.in-Ok.frame.0 in
    let low = c.in-Ok.ensures.lowest in
    let w = (goal.at.invariant_of-self-2 c).After-self in
    let vp = slice_set up fr false in
    subst (λ (k : KeptFile). IsStore c.take.new.self vp (slice_set files f k) dirty) (sym (entered_file c))
    (subst (λ (u : Table). IsStore u vp (slice_set files f (with_kept (kept_at files f) p (Some (untagged fr)))) dirty)
    (sym c.in-Ok.ensures.taken) (entered_store t up files dirty f p fr c.self.invariant low.here low.within
    (file_here (at w)) (absent w)))

pub returns-clause-ok : goal.returns-clause-ok
returns-clause-ok c =
    let t = c.self.inside.frames in
    let up = c.self.inside.uptodate.items in
    let files = c.self.inside.files.items in
    let f = c.args.file in
    let p = c.args.page in
    let fr = c.in-Ok.frame.0 in
    let low = c.in-Ok.ensures.lowest in
    let w = (goal.at.returns-clause-ok c).After-self in
    (λ i. store_of (c.in-Ok.ensures.taken i) (slice_set up fr false) (slice_set files f (entered_file c i)))
    ∙ entered_seen t up files c.self.inside.dirty f p fr c.self.invariant low.here low.within (file_here (at w))
    (absent w)
    ∙ ap (λ (s : Store). with_lists s (lists_of (taken t fr (record { 0 = f }, record { 0 = p }))))
    (entry_wait (store_of t up files) f p true (free_frames t - 1)
    (ap (λ (s : Store). stored_page s f p) c.self.view_is ∙ c.requires.absent))
    ∙ ap (λ (l : PageLists). let s : Store = record (store_of t up files)
    { filling = set.insert (store_of t up files).filling (f, p); free = free_frames t - 1; lists = l } in s)
    (lists-taken t c.self.invariant.sound f p fr low.here low.within)
    ∙ ap (λ (s : Store). let u : Store =
    record s { filling = set.insert s.filling (f, p); free = s.free - 1; lists = entered f p s.lists } in u)
    c.self.view_is

pub returns-then-is_err-clause-unlisted : goal.returns-then-is_err-clause-unlisted
returns-then-is_err-clause-unlisted c =
    let t = c.self.inside.frames in
    let up = c.self.inside.uptodate.items in
    let files = c.self.inside.files.items in
    let f = c.args.file in
    let p = c.args.page in
    ap (λ (s : Store). is_listed f p s.lists) (sym c.self.view_is)
    ∙ unlisted t c.self.invariant.sound f p
    (no_frame t up files c.self.inside.dirty c.self.invariant f p
    (absent (goal.at.returns-then-is_err-clause-unlisted c).After-self))

pub returns-clause-unlisted : goal.returns-clause-unlisted
returns-clause-unlisted c =
    let t = c.self.inside.frames in
    let up = c.self.inside.uptodate.items in
    let files = c.self.inside.files.items in
    let f = c.args.file in
    let p = c.args.page in
    ap (λ (s : Store). is_listed f p s.lists) (sym c.self.view_is)
    ∙ unlisted t c.self.invariant.sound f p
    (no_frame t up files c.self.inside.dirty c.self.invariant f p
    (absent (goal.at.returns-clause-unlisted c).After-self))
