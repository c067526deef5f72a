use Rattle.std.proofs.Common.{rules, tests, eqb, ◌∙◌}
use Rattle.std.proofs.lemmas.Iterator.{YieldsList-from_slice}
use Rattle.std.proofs.lemmas.Iterator.Search.{any_from_yields_List}
use Rattle.shared.proofs.ShardMaking.{among_is}
use Rattle.shared.proofs.shards.config.is_among.Goals as goal

pub returns : goal.returns
returns g c =
    any_from_yields_List (λ s. eqb s.name c.args.name) _ _ _ c.any.ensures.ran (YieldsList-from_slice c.args.sources.now cc)
    (λ x b q k. search (rules, tests))
    ∙ among_is c.args.name c.args.sources.now
