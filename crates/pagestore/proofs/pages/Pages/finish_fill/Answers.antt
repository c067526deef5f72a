use Rattle.std.proofs.Common.{ap, ◌∙◌, List, ℕ}
use Rattle.std.specs.FinMap as map
use Rattle.std.specs.FinSet as set
use Rattle.pc_types.specs.Tags.{no_tags}
use Rattle.machine.specs.State.{Page}
use Rattle.pagestore.specs.Store.{Store, stored_at, with_pages}
use Rattle.pagestore.proofs.ShownBytes.{laid-shown}
use Rattle.pagestore.proofs.pages.Pages.finish_fill.Goals as goal

pub returns : goal.returns
returns c =
    let s = c.args.self.now in
    let f = c.args.file in
    let p = c.args.page in
    c.finish.ensures
    ∙ ap (λ (row : List ℕ). let page : Page = record { bytes = row; tags = no_tags } in
    let u : Store = record (with_pages s f (map.insert (stored_at s f).pages p page) s.free)
    { filling = set.remove s.filling (f, p) } in u) (laid-shown s.page c.args.valid c.min.result c.args.bytes.now c.requires.whole c.min.ensures)
