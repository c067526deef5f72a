use Rattle.std.proofs.Common.{◌∙◌, sym}
use Rattle.std.proofs.lemmas.Option.{MatchOption-at_none}
use Rattle.radix.proofs.BesideLemmas.{alone_beside, next_beside, none_beside, only_leaf}
use Rattle.radix.proofs.next.next_in.Goals as goal

pub returns-in_default-clause-next : goal.returns-in_default-clause-next
returns-in_default-clause-next c =
    none_beside c.args.nodes.now c.args.head c.requires.sound c.args.mark c.requires.mark c.args.index c.args.key c.index-node.result.now c.requires.stands c.index-node.ensures
    (MatchOption-at_none _ _ c.in_default.is c.lowest_from.ensures)

pub unreachable-requires : goal.unreachable-requires
unreachable-requires c =
    only_leaf c.args.nodes.now c.args.head c.requires.sound c.args.mark c.requires.mark c.args.index c.args.key c.index-node.result.now c.requires.stands c.index-node.ensures
    c.in-Some.offset c.in-Some.ensures.within c.in-Some.ensures.set (λ value is. c.in_default-read.not-Leaf value (c.read.ensures ∙ is))

pub returns-clause-alone : goal.returns-clause-alone
returns-clause-alone c = λ tells.
    alone_beside c.args.nodes.now c.args.head c.requires.sound c.args.mark c.requires.mark c.args.index c.args.key c.index-node.result.now c.requires.stands c.index-node.ensures
    c.in-Some.offset c.in-Some.ensures.within (c.ends_after.ensures tells)

pub returns-clause-next : goal.returns-clause-next
returns-clause-next c =
    next_beside c.args.nodes.now c.args.head c.requires.sound c.args.mark c.requires.mark c.args.index c.args.key c.index-node.result.now c.requires.stands c.index-node.ensures
    c.in-Some.offset c.in-Leaf.value c.in-Some.ensures (sym c.read.ensures ∙ c.in-Leaf.is)
