use Rattle.std.proofs.Common.{Bool, true, false, not, length, ◌-◌, ◌+◌, ◌≤◌, arith}
use Rattle.std.specs.Int.{from_bool}
use Rattle.mapping.specs.Pages.{seen}
use Rattle.pagestore.proofs.StoreFacts.{few_dirty_pages}
use Rattle.pagestore.proofs.TagChanges.{CachedPage, dirty_more, frame_taken, none_left, put_seen, put_store, rows_put}
use Rattle.pagestore.proofs.pages.Pages.put.Goals as goal
use Rattle.pagestore.proofs.pages.Pages.put.Goals.{After-index_mut}

-- the page, in its file
abbrev at : After-index_mut → CachedPage
at c = record {
  pages = c.self.inside;
  kept = c.self.invariant;
  store = c.args.self.now;
  seen = c.self.view_is;
  file = c.args.file;
  page = c.args.page;
  here = c.requires.here;
  cached = c.requires.cached;
  found = c.index_mut.result.now;
  value = c.index_mut.ensures.value;
}

pub unreachable-requires : goal.unreachable-requires
unreachable-requires c =
    let w = at (goal.at.unreachable-requires c).After-index_mut in
    none_left w c.in_default.ensures.page

pub overflow_add-self : goal.overflow_add-self
overflow_add-self c =
    let most : (b : Bool) → from_bool b ≤ 1 =
    λ b. elim b as (λ b. from_bool b ≤ 1) [ true ↦ omega arith | false ↦ omega arith ] in
    omega (
      arith,
      few_dirty_pages c.self.inside.frames c.self.inside.uptodate.items c.self.inside.files.items
          c.self.inside.dirty c.self.invariant,
      c.from.ensures,
      most (not c.has.result),
    )

pub bytes_mut-requires : goal.bytes_mut-requires
bytes_mut-requires c =
    let w = at (goal.at.bytes_mut-requires c).After-index_mut in
    let x = seen c.in-Some.mapped in
    let found = c.in-Some.ensures.page in
    frame_taken w x found

pub invariant_of-self : goal.invariant_of-self
invariant_of-self c =
    let w = at (goal.at.invariant_of-self c).After-index_mut in
    let x = seen c.in-Some.mapped in
    let found = c.in-Some.ensures.page in
    let b = c.args.bytes.now in
    let put = rows_put w x found c.args.at b c.requires.room
    (c.args.at + length b - c.args.at) c.bytes_mut.result.now c.copy_from_slice.new.self c.bytes_mut.ensures.bytes
    c.copy_from_slice.ensures.after (omega arith) c.bytes_mut.ensures.sized c.bytes_mut.ensures.within in
    let more = dirty_more w x found c.args.at b c.requires.room
    c.from.result c.has.result c.from.ensures c.has.ensures in
    put_store w x found c.args.at b c.requires.room _ put c.tag_page.new.self
    c.tag_page.ensures.tagged (c.self.inside.dirty + c.from.result) more

pub returns : goal.returns
returns c =
    let w = at (goal.at.returns c).After-index_mut in
    let x = seen c.in-Some.mapped in
    let found = c.in-Some.ensures.page in
    let b = c.args.bytes.now in
    let put = rows_put w x found c.args.at b c.requires.room
    (c.args.at + length b - c.args.at) c.bytes_mut.result.now c.copy_from_slice.new.self c.bytes_mut.ensures.bytes
    c.copy_from_slice.ensures.after (omega arith) c.bytes_mut.ensures.sized c.bytes_mut.ensures.within in
    put_seen w x found c.args.at b c.requires.room _ put c.tag_page.new.self
    c.tag_page.ensures.tagged
