use Rattle.std.proofs.Common.{ap, ◌∙◌, ◌-◌, [], List, ℕ}
use Rattle.std.specs.FinMap as map
use Rattle.frames.specs.Rows.{laid}
use Rattle.pc_types.specs.Tags.{no_tags}
use Rattle.machine.specs.PageLists.{entered}
use Rattle.machine.specs.State.{Page}
use Rattle.pagestore.specs.Store.{stored_at, with_lists, with_pages}
use Rattle.pagestore.proofs.NewPages.{entered_awaited, entered_here, finished, laid-none}
use Rattle.pagestore.proofs.pages.Pages.make.Goals as goal

pub finish-requires-clause-here : goal.finish-requires-clause-here
finish-requires-clause-here c = entered_here c.args.self.now c.start_fill.new.self c.args.file c.args.page
    c.in_ok-start_fill.ensures.ok c.requires.here

pub finish-requires-clause-filling : goal.finish-requires-clause-filling
finish-requires-clause-filling c = entered_awaited c.args.self.now c.start_fill.new.self c.args.file c.args.page
    c.in_ok-start_fill.ensures.ok

pub returns-clause-ok : goal.returns-clause-ok
returns-clause-ok c =
    let old = c.args.self.now in
    let f = c.args.file in
    let p = c.args.page in
    finished old c.start_fill.new.self f p c.in_ok-start_fill.ensures.ok c.requires.idle (λ n. laid n 0 [])
    c.finish.new.self c.finish.ensures
    ∙ ap (λ (row : List ℕ). let page : Page = record { bytes = row; tags = no_tags } in with_lists
    (with_pages old f (map.insert (stored_at old f).pages p page) (old.free - 1)) (entered f p old.lists))
    (laid-none old.page)
