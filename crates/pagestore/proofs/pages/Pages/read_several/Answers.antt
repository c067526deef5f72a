use Rattle.std.proofs.Common.{arith, ◌+◌, ◌-◌, ◌/◌, length}
use Rattle.pagestore.specs.Store.{stored_at}
use Rattle.pagestore.proofs.Spans.{in_order}
use Rattle.pagestore.proofs.PairLemmas.{all_cached}
use Rattle.pagestore.proofs.pages.Pages.read_several.Goals as goal

pub read_each-requires-clause-cached : goal.read_each-requires-clause-cached
read_each-requires-clause-cached c =
    let P = c.args.page_size in
    let o = c.args.offset in
    let n = length c.args.out.now in
    all_cached (o / P) ((o + n - 1) / P + 1) (stored_at c.args.self.now c.args.file).pages
    (let order = in_order P o n c.requires.positive c.requires.some in omega (arith, order)) c.in_default.ensures
