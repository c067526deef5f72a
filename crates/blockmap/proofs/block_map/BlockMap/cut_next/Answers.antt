use Rattle.std.proofs.Common.{◌∙◌, ap, subst}
use Rattle.blockmap.specs.Blocks.{Blocks, cut_one}
use Rattle.blockmap.specs.Keys.{IsPageFrom, NoneFrom}
use Rattle.blockmap.proofs.block_map.BlockMap.cut_next.Goals as goal

pub returns-then-cut_guess-clause-found : goal.returns-then-cut_guess-clause-found
returns-then-cut_guess-clause-found c =
    let had = c.cut_guess.ensures.had c.if-cut_guess.true in
    record { within = had.0; low = c.requires.from; there = had.1 }

pub cut_page-requires : goal.cut_page-requires
cut_page-requires c = record { file = c.requires.file; page = c.in-Some.ensures.found.within }

pub returns-clause-found : goal.returns-clause-found
returns-clause-found c = subst (λ (b : Blocks). IsPageFrom b.spots c.args.file c.args.from c.in-Some.page) (c.cut_guess.ensures.same c.if-cut_guess.false) c.in-Some.ensures.found

pub returns-clause-cut : goal.returns-clause-cut
returns-clause-cut c =
    c.cut_page.ensures.cut (c.cut_page.ensures.had ∙ c.in-Some.ensures.found.there)
    ∙ ap (λ (b : Blocks). cut_one b (c.args.file, c.in-Some.page)) (c.cut_guess.ensures.same c.if-cut_guess.false)

pub returns-in_default-clause-none : goal.returns-in_default-clause-none
returns-in_default-clause-none c = subst (λ (b : Blocks). NoneFrom b.spots c.args.file c.args.from) (c.cut_guess.ensures.same c.if-cut_guess.false) c.in_default.ensures.none

pub returns-in_default-clause-same : goal.returns-in_default-clause-same
returns-in_default-clause-same c = c.cut_guess.ensures.same c.if-cut_guess.false
