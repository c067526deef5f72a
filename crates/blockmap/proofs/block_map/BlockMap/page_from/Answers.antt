use Rattle.std.proofs.Common.{subst, arith}
use Rattle.std.specs.Prelude.{IfNone, IfSome}
use Rattle.blockmap.specs.Blocks.{Blocks}
use Rattle.blockmap.specs.Keys.{IsPageFrom, NoneFrom}
use Rattle.blockmap.proofs.block_map.BlockMap.page_from.Goals as goal

pub returns-in-Some-clause-found : goal.returns-in-Some-clause-found
returns-in-Some-clause-found c =
    let one = c.in-Some.ensures.found in
    let low = one.low in
    subst (λ (b : Blocks). IsPageFrom b.spots c.args.file c.args.from c.in-Some.page) c.self.view_is
    (record { within = one.within; low = omega (arith, low, c.requires.from); there = one.there })

pub returns-in-None-clause-found : goal.returns-in-None-clause-found
returns-in-None-clause-found c = subst (λ (b : Blocks). IfSome c.page_from-in-None.result (λ page. IsPageFrom b.spots c.args.file c.args.from page)) c.self.view_is c.page_from-in-None.ensures.found

pub returns-in-None-clause-none : goal.returns-in-None-clause-none
returns-in-None-clause-none c = subst (λ (b : Blocks). IfNone c.page_from-in-None.result (NoneFrom b.spots c.args.file c.args.from)) c.self.view_is c.page_from-in-None.ensures.none
