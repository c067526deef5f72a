use Rattle.std.proofs.Common.{Bool, true, false, not, length, replicate, rules, ap, ◌∙◌, ◌-◌, ◌+◌, ◌≡◌, ◌≤◌, arith}
use Rattle.std.specs.FinMap as map
use Rattle.std.specs.Int.{from_bool}
use Rattle.std.proofs.lemmas.List.{length-replicate}
use Rattle.mapping.specs.Pages.{seen}
use Rattle.machine.specs.State.{Page}
use Rattle.pagestore.specs.Store.{Store, stored_at, the_page, with_pages}
use Rattle.pagestore.proofs.StoreFacts.{few_dirty_pages}
use Rattle.pagestore.proofs.TagChanges.{CachedPage, dirty_more, frame_taken, its_size, none_left, put_seen, put_store, rows_put}
use Rattle.pagestore.proofs.TailCuts.{cut_is}
use Rattle.pagestore.proofs.pages.Pages.cut_tail.Goals as goal
use Rattle.pagestore.proofs.pages.Pages.cut_tail.Goals.{After-index_mut}

-- the page, in its file
abbrev at : After-index_mut → CachedPage
at c = record {
  pages = c.self.inside;
  kept = c.self.invariant;
  store = c.args.self.now;
  seen = c.self.view_is;
  file = c.args.file;
  page = c.args.page;
  here = c.requires.here;
  cached = c.requires.cached;
  found = c.index_mut.result.now;
  value = c.index_mut.ensures.value;
}

pub unreachable-requires : goal.unreachable-requires
unreachable-requires c =
    let w = at (goal.at.unreachable-requires c).After-index_mut in
    none_left w c.in_default.ensures.page

pub overflow_add-self : goal.overflow_add-self
overflow_add-self c =
    let most : (b : Bool) → from_bool b ≤ 1 =
    λ b. elim b as (λ b. from_bool b ≤ 1) [ true ↦ omega arith | false ↦ omega arith ] in
    omega (
      arith,
      few_dirty_pages c.self.inside.frames c.self.inside.uptodate.items c.self.inside.files.items
          c.self.inside.dirty c.self.invariant,
      c.from.ensures,
      most (not c.has.result),
    )

pub bytes_mut-requires : goal.bytes_mut-requires
bytes_mut-requires c =
    let w = at (goal.at.bytes_mut-requires c).After-index_mut in
    let x = seen c.in-Some.mapped in
    frame_taken w x c.in-Some.ensures.page

pub invariant_of-self : goal.invariant_of-self
invariant_of-self c =
    let w = at (goal.at.invariant_of-self c).After-index_mut in
    let x = seen c.in-Some.mapped in
    let P = c.args.self.now.page in
    let b = replicate (P - c.args.from) 0 in
    let many : length b ≡ P - c.args.from = length-replicate (P - c.args.from) 0 in
    let inside = c.requires.inside in
    let fits : c.args.from + length b ≤ P = omega (arith, inside, many) in
    let whole : length c.bytes_mut.result.now ≡ P = c.bytes_mut.ensures.size
    ∙ ap (λ (s : Store). s.page) c.self.view_is in
    let filled : c.fill.new.self ≡ replicate (length c.bytes_mut.result.now - c.args.from) 0 = search rules in
    let zeros : c.fill.new.self ≡ b = filled ∙ ap (λ n. replicate (n - c.args.from) 0) whole in
    let put = rows_put w x c.in-Some.ensures.page c.args.from b fits
    (length c.bytes_mut.result.now - c.args.from) c.bytes_mut.result.now c.fill.new.self c.bytes_mut.ensures.bytes
    zeros (omega (arith, whole, many)) c.bytes_mut.ensures.sized c.bytes_mut.ensures.within in
    let more = dirty_more w x c.in-Some.ensures.page c.args.from b fits
    c.from.result c.has.result c.from.ensures c.has.ensures in
    put_store w x c.in-Some.ensures.page c.args.from b fits _ put c.tag_page.new.self
    c.tag_page.ensures.tagged (c.self.inside.dirty + c.from.result) more

pub returns : goal.returns
returns c =
    let w = at (goal.at.returns c).After-index_mut in
    let x = seen c.in-Some.mapped in
    let P = c.args.self.now.page in
    let b = replicate (P - c.args.from) 0 in
    let many : length b ≡ P - c.args.from = length-replicate (P - c.args.from) 0 in
    let inside = c.requires.inside in
    let fits : c.args.from + length b ≤ P = omega (arith, inside, many) in
    let whole : length c.bytes_mut.result.now ≡ P = c.bytes_mut.ensures.size
    ∙ ap (λ (s : Store). s.page) c.self.view_is in
    let filled : c.fill.new.self ≡ replicate (length c.bytes_mut.result.now - c.args.from) 0 = search rules in
    let zeros : c.fill.new.self ≡ b = filled ∙ ap (λ n. replicate (n - c.args.from) 0) whole in
    let put = rows_put w x c.in-Some.ensures.page c.args.from b fits
    (length c.bytes_mut.result.now - c.args.from) c.bytes_mut.result.now c.fill.new.self c.bytes_mut.ensures.bytes
    zeros (omega (arith, whole, many)) c.bytes_mut.ensures.sized c.bytes_mut.ensures.within in
    put_seen w x c.in-Some.ensures.page c.args.from b fits _ put c.tag_page.new.self
    c.tag_page.ensures.tagged
    ∙ ap (λ (page : Page). with_pages c.args.self.now c.args.file
    (map.insert (stored_at c.args.self.now c.args.file).pages c.args.page page) c.args.self.now.free)
    (cut_is P c.args.from (the_page (stored_at c.args.self.now c.args.file).pages c.args.page)
    (its_size w x c.in-Some.ensures.page) inside)
