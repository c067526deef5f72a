use Rattle.std.proofs.Common.{rules, tests, ◌∙◌}
use Rattle.std.proofs.lemmas.Iterator.{YieldsList-from_slice}
use Rattle.std.proofs.lemmas.Iterator.Search.{all_from_yields_List}
use Rattle.catalog.specs.Cataloged.{fits}
use Rattle.shared.proofs.ShardMaking.{fit_is}
use Rattle.shared.proofs.shards.config.all_fit.Goals as goal

pub returns : goal.returns
returns g c =
    all_from_yields_List (λ s. fits c.args.geometry.now s.files) _ _ _ c.all.ensures.ran (YieldsList-from_slice c.args.sources.now cc)
    (λ x b q k. search (rules, tests))
    ∙ fit_is c.args.geometry.now c.args.sources.now
