use Rattle.std.proofs.Common.{arith, ap, sym, subst, refl, ◌∙◌, ◌+◌, ◌-◌, ◌≤◌, Bool, true, false}
use Rattle.std.specs.Prelude.{slice_set}
use Rattle.std.proofs.lemmas.Bool.{false≢true}
use Rattle.std.specs.Int.{from_bool}
use Rattle.writeback.specs.Picks as picks
use Rattle.machine.specs.Changes.{after_write, under_write}
use Rattle.machine.specs.State.{Page}
use Rattle.frames.specs.Table.{Table, put_back}
use Rattle.mapping.specs.Pages.{Mapped, seen}
use Rattle.pagestore.specs.Store.{IsStore, store_of}
use Rattle.pagestore.proofs.StoreFacts.{few_dirty_pages, byte_is, back_store, not_aside}
use Rattle.pagestore.proofs.TagChanges.{CachedPage, counts_dirty, frame_taken, none_left, tagged_store, tagged_seen}
use Rattle.pagestore.proofs.pages.Pages.write_through.Goals as goal
use Rattle.pagestore.proofs.pages.Pages.write_through.Goals.{After-index_mut}

-- the page, in its file
abbrev at : After-index_mut → CachedPage
at c = record {
  pages = c.self.inside;
  kept = c.self.invariant;
  store = c.args.self.now;
  seen = c.self.view_is;
  file = c.args.file;
  page = c.args.page;
  here = c.requires.here;
  cached = c.requires.cached;
  found = c.index_mut.result.now;
  value = c.index_mut.ensures.value;
}

pub unreachable-requires : goal.unreachable-requires
unreachable-requires c =
    let w = at (goal.at.unreachable-requires c).After-index_mut in
    none_left w c.in_default.ensures.before

pub overflow_sub-self : goal.overflow_sub-self
overflow_sub-self c =
    let w = at (goal.at.overflow_sub-self c).After-index_mut in
    let x = seen c.in-Some.mapped in
    let one = c.from.ensures ∙ ap from_bool c.has.ensures ∙ byte_is x.tags.dirty in
    omega (arith, one, counts_dirty w x c.in-Some.ensures.before)

most : (b : Bool) → from_bool b ≤ 1
most true = omega arith
most false = omega arith

pub overflow_add-self : goal.overflow_add-self
overflow_add-self c =
    omega (
      arith,
      few_dirty_pages c.self.inside.frames c.self.inside.uptodate.items c.self.inside.files.items
          c.self.inside.dirty c.self.invariant,
      c.from-2.ensures,
      most c.args.failed,
    )

-- the page in the frames once its own is set aside no more
abbrev put_back_at : (w : CachedPage) → Mapped → CachedPage
put_back_at w x = record w {
  pages = record w.pages { frames = put_back w.pages.frames x.frame };
  kept = back_store w.pages.frames w.pages.uptodate.items w.pages.files.items w.pages.dirty x.frame w.kept;
}

pub put_back-requires : goal.put_back-requires
put_back-requires c =
    let w = at (goal.at.put_back-requires c).After-index_mut in
    frame_taken w (seen c.in-Some.mapped) c.in-Some.ensures.before

pub invariant_of-self : goal.invariant_of-self
invariant_of-self c =
    let w = at (goal.at.invariant_of-self c).After-index_mut in
    let x = seen c.in-Some.mapped in
    let one = c.from.ensures ∙ ap from_bool c.has.ensures ∙ byte_is x.tags.dirty in
    let two = c.from-2.ensures ∙ byte_is c.args.failed in
    let least = counts_dirty w x c.in-Some.ensures.before in
    let now = c.self.inside.dirty - c.from.result + c.from-2.result in
    let files = slice_set c.self.inside.files.items c.args.file
    (record c.index_mut.result.now { mapping = c.write_through.new.mapping }) in
    subst (λ (u : Table). IsStore u c.self.inside.uptodate.items files now)
    (sym c.put_back.ensures)
    (tagged_store (put_back_at w x) x c.in-Some.ensures.before (picks.written_through c.args.failed) refl
    c.write_through.new.mapping c.write_through.ensures.tags now
    (λ aside. absurd (false≢true (sym (not_aside c.self.inside.frames.aside x.frame) ∙ aside)))
    (omega (arith, one, two, least)))

pub returns : goal.returns
returns c =
    let w = at (goal.at.returns c).After-index_mut in
    let files = slice_set c.self.inside.files.items c.args.file
    (record c.index_mut.result.now { mapping = c.write_through.new.mapping }) in
    ap (λ (u : Table). store_of u c.self.inside.uptodate.items files) c.put_back.ensures
    ∙ tagged_seen w (seen c.in-Some.mapped) c.in-Some.ensures.before (picks.written_through c.args.failed) refl
    c.write_through.new.mapping c.write_through.ensures.tags
    (λ (page : Page). after_write c.args.failed (under_write page)) refl
