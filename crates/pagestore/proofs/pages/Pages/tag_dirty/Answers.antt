use Rattle.std.proofs.Common.{Bool, true, false, not, [], refl, ◌+◌, ◌≤◌, arith}
use Rattle.std.specs.Int.{from_bool}
use Rattle.mapping.specs.Pages.{seen, with_tag}
use Rattle.pc_types.specs.declared.tags.Tag.TheVariants.{Dirty}
use Rattle.pagestore.specs.Ranges.{dirtied}
use Rattle.pagestore.proofs.StoreFacts.{few_dirty_pages}
use Rattle.pagestore.proofs.TagChanges.{CachedPage, dirty_more, none_left, tagged_seen, tagged_store}
use Rattle.pagestore.proofs.pages.Pages.tag_dirty.Goals as goal
use Rattle.pagestore.proofs.pages.Pages.tag_dirty.Goals.{After-index_mut}

-- the page, in its file
abbrev at : After-index_mut → CachedPage
at c = record {
  pages = c.self.inside;
  kept = c.self.invariant;
  store = c.args.self.now;
  seen = c.self.view_is;
  file = c.args.file;
  page = c.args.page;
  here = c.requires.here;
  cached = c.requires.cached;
  found = c.index_mut.result.now;
  value = c.index_mut.ensures.value;
}

pub overflow_add-self : goal.overflow_add-self
overflow_add-self c =
    let most : (b : Bool) → from_bool b ≤ 1 =
    λ b. elim b as (λ b. from_bool b ≤ 1) [ true ↦ omega arith | false ↦ omega arith ] in
    omega (
      arith,
      few_dirty_pages c.self.inside.frames c.self.inside.uptodate.items c.self.inside.files.items
          c.self.inside.dirty c.self.invariant,
      c.from.ensures,
      most (not c.has.result),
    )

pub unreachable-requires : goal.unreachable-requires
unreachable-requires c =
    let w = at (goal.at.unreachable-requires c).After-index_mut in
    none_left w c.in_default.ensures.page

pub invariant_of-self : goal.invariant_of-self
invariant_of-self c =
    let w = at (goal.at.invariant_of-self c).After-index_mut in
    let x = seen c.in-Some.mapped in
    let found = c.in-Some.ensures.page in
    let more = dirty_more w x found 0 [] (omega arith) c.from.result c.has.result c.from.ensures c.has.ensures in
    tagged_store w x found (with_tag Dirty true) refl c.tag_page.new.self c.tag_page.ensures.tagged
    (c.self.inside.dirty + c.from.result) (λ aside. refl) more

pub returns : goal.returns
returns c =
    let w = at (goal.at.returns c).After-index_mut in
    let x = seen c.in-Some.mapped in
    tagged_seen w x c.in-Some.ensures.page (with_tag Dirty true) refl c.tag_page.new.self c.tag_page.ensures.tagged
    dirtied refl
