use Rattle.std.proofs.Common.{◌≡◌, ◌∙◌, sym}
use Rattle.shared.proofs.shards.standing.BlockOfSeatCall.on.Goals as goal

pub returns-clause-call : goal.returns-clause-call
returns-clause-call g c = λ named.
    let here : c.args.own.now.name ≡ c.args.cache.now.name = named ∙ sym c.args.cache.now.named in
    record { goes = c.block_of.ensures.goes; only = c.block_of.ensures.only; stands = c.block_of.ensures.stands here }
