use Rattle.std.proofs.Common.{ap, ◌∙◌, ◌-◌, arith}
use Rattle.std.specs.FinMap as map
use Rattle.frames.specs.Rows.{laid}
use Rattle.machine.specs.PageLists.{entered}
use Rattle.machine.specs.State.{Page}
use Rattle.pagestore.specs.Store.{stored_at, with_lists, with_pages}
use Rattle.pagestore.proofs.NewPages.{entered_awaited, entered_here, entered_size, finished_cached, finished_dirty}
use Rattle.pagestore.proofs.NewPages.{finished_here, laid_page}
use Rattle.pagestore.proofs.pages.Pages.make_with.Goals as goal

pub finish-requires-clause-here : goal.finish-requires-clause-here
finish-requires-clause-here c = entered_here c.args.self.now c.start_fill.new.self c.args.file c.args.page
    c.in_ok-start_fill.ensures.ok c.requires.here

pub finish-requires-clause-filling : goal.finish-requires-clause-filling
finish-requires-clause-filling c = entered_awaited c.args.self.now c.start_fill.new.self c.args.file c.args.page
    c.in_ok-start_fill.ensures.ok

pub finish-requires-clause-inside : goal.finish-requires-clause-inside
finish-requires-clause-inside c = omega (
  arith,
  c.requires.inside,
  entered_size c.args.self.now c.start_fill.new.self
      c.args.file c.args.page c.in_ok-start_fill.ensures.ok,
)

pub tag_dirty-requires-clause-here : goal.tag_dirty-requires-clause-here
tag_dirty-requires-clause-here c = finished_here c.args.self.now c.start_fill.new.self c.args.file c.args.page
    c.in_ok-start_fill.ensures.ok c.requires.idle (λ n. laid n c.args.at c.args.bytes.now) c.finish.new.self
    c.finish.ensures c.requires.here

pub tag_dirty-requires-clause-cached : goal.tag_dirty-requires-clause-cached
tag_dirty-requires-clause-cached c = finished_cached c.args.self.now c.start_fill.new.self c.args.file c.args.page
    c.in_ok-start_fill.ensures.ok c.requires.idle (λ n. laid n c.args.at c.args.bytes.now) c.finish.new.self
    c.finish.ensures c.requires.here

pub returns-clause-ok : goal.returns-clause-ok
returns-clause-ok c =
    let old = c.args.self.now in
    let f = c.args.file in
    let p = c.args.page in
    finished_dirty old c.start_fill.new.self f p c.in_ok-start_fill.ensures.ok c.requires.idle
    (λ n. laid n c.args.at c.args.bytes.now) c.finish.new.self c.finish.ensures c.requires.here c.tag_dirty.new.self
    c.tag_dirty.ensures
    ∙ ap (λ (page : Page). with_lists (with_pages old f (map.insert (stored_at old f).pages p page) (old.free - 1))
    (entered f p old.lists)) (laid_page old.page c.args.at c.args.bytes.now c.requires.inside)
