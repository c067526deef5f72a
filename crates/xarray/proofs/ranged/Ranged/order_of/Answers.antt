use Rattle.std.proofs.Common.{sym, ◌∙◌}
use Rattle.xarray.specs.View.{ranges_of}
use Rattle.xarray.proofs.CallLemmas.{order_one}
use Rattle.xarray.proofs.ranged.Ranged.order_of.Goals as goal

pub returns-then-not-reaches : goal.returns-then-not-reaches
returns-then-not-reaches c = λ r there. order_one (ranges_of c.args.self.now) c.args.first c.args.level c.requires.there r there (sym c.if-not-reaches.true ∙ c.reaches.ensures r there)
