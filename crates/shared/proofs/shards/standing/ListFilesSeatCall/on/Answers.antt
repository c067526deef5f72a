use Rattle.std.proofs.Common.{◌≡◌, ◌∙◌, sym}
use Rattle.shared.proofs.shards.standing.ListFilesSeatCall.on.Goals as goal

pub returns-clause-call : goal.returns-clause-call
returns-clause-call g c = λ named.
    let here : c.args.own.now.name ≡ c.args.cache.now.name = named ∙ sym c.args.cache.now.named in
    record { goes = c.catalog.ensures.goes; only = c.catalog.ensures.only; told = c.catalog.ensures.told here; refused = c.catalog.ensures.refused here }
