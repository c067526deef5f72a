use Rattle.std.proofs.Common.{arith, ap, sym, refl, ◌∙◌, ◌-◌}
use Rattle.std.specs.Int.{from_bool}
use Rattle.mapping.specs.Pages.{seen, with_tags}
use Rattle.machine.specs.PageTags as tags
use Rattle.machine.specs.State.{Page}
use Rattle.machine.specs.Changes.{under_write}
use Rattle.pagestore.proofs.StoreFacts.{byte_is}
use Rattle.pagestore.proofs.TagChanges.{CachedPage, none_left, frame_taken, counts_dirty, page_found, tagged_store, tagged_seen}
use Rattle.pagestore.proofs.pages.Pages.start_write.Goals as goal
use Rattle.pagestore.proofs.pages.Pages.start_write.Goals.{After-index_mut}

-- the page, in its file
abbrev at : After-index_mut → CachedPage
at c = record {
  pages = c.self.inside;
  kept = c.self.invariant;
  store = c.args.self.now;
  seen = c.self.view_is;
  file = c.args.file;
  page = c.args.page;
  here = c.requires.here;
  cached = c.requires.cached;
  found = c.index_mut.result.now;
  value = c.index_mut.ensures.value;
}

pub unreachable-requires : goal.unreachable-requires
unreachable-requires c =
    let w = at (goal.at.unreachable-requires c).After-index_mut in
    none_left w c.in_default.ensures.before

pub overflow_sub-self : goal.overflow_sub-self
overflow_sub-self c =
    let w = at (goal.at.overflow_sub-self c).After-index_mut in
    let x = seen c.in-Some.mapped in
    let one = c.from.ensures ∙ ap from_bool c.has.ensures ∙ byte_is x.tags.dirty in
    omega (arith, one, counts_dirty w x c.in-Some.ensures.before)

pub bytes-requires : goal.bytes-requires
bytes-requires c =
    let w = at (goal.at.bytes-requires c).After-index_mut in
    frame_taken w (seen c.in-Some.mapped) c.in-Some.ensures.before

pub invariant_of-self : goal.invariant_of-self
invariant_of-self c =
    let w = at (goal.at.invariant_of-self c).After-index_mut in
    let x = seen c.in-Some.mapped in
    let one = c.from.ensures ∙ ap from_bool c.has.ensures ∙ byte_is x.tags.dirty in
    let least = counts_dirty w x c.in-Some.ensures.before in
    tagged_store w x c.in-Some.ensures.before (with_tags tags.under_write) refl
    c.begin_write.new.mapping c.begin_write.ensures.tags (c.self.inside.dirty - c.from.result)
    (λ aside. refl)
    (omega (arith, one, least))

pub returns-clause-begun : goal.returns-clause-begun
returns-clause-begun c =
    let w = at (goal.at.returns-clause-begun c).After-index_mut in
    tagged_seen w (seen c.in-Some.mapped) c.in-Some.ensures.before (with_tags tags.under_write) refl
    c.begin_write.new.mapping c.begin_write.ensures.tags under_write refl

pub returns-clause-copy : goal.returns-clause-copy
returns-clause-copy c =
    let w = at (goal.at.returns-clause-copy c).After-index_mut in
    let page = page_found w (seen c.in-Some.mapped) c.in-Some.ensures.before in
    c.copy_from_slice.ensures.after ∙ c.bytes.ensures.bytes ∙ ap (λ (page : Page). page.bytes) (sym page)
