use Rattle.std.proofs.Common.{sym, ◌∙◌}
use Rattle.std.proofs.lemmas.Result.{on_ok_weaker}
use Rattle.xarray.specs.MarkedArray.{split}
use Rattle.xarray.specs.View.{ranges_of}
use Rattle.xarray.proofs.ArrayLemmas.{changed-is}
use Rattle.xarray.proofs.PartLemmas.{split-some}
use Rattle.xarray.proofs.array.XArray.split.Goals as goal

pub returns-clause-splits : goal.returns-clause-splits
returns-clause-splits c =
    let whole = c.in_ok-whole.ensures.whole in
    let is = split-some (ranges_of c.self.inside.ranged) c.args.index c.args.order c.in_ok-whole.whole.first whole.range (c.in_ok-whole.ensures.is whole.range whole.there) in
    on_ok_weaker c.split.result (λ p. changed-is c.self.inside.ranged c.self.inside.ready c.args.self.now c.self.view_is (λ m. split m c.args.index c.args.order) c.split.new.self (p ∙ sym is)) (c.split.ensures.splits whole.range whole.there)
