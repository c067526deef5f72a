use Rattle.std.proofs.Common.{◌≡◌, ◌+◌, ◌/◌, ◌%◌, sym, ap, ◌∙◌, subst, arith}
use Rattle.std.proofs.lemmas.Option.{same_Some}
use Rattle.radix.specs.declared.node.Node.{Node}
use Rattle.radix.specs.Entries.{StandsAt}
use Rattle.radix.specs.Twigs.{IsRest}
use Rattle.radix.proofs.AheadLemmas.{above_stands}
use Rattle.radix.proofs.TreeLemmas.{contains_key, is_under}
use Rattle.radix.proofs.twig.rest_above.Goals as goal

pub returns-in_default : goal.returns-in_default
returns-in_default c = λ prefix stands some. absurd (omega (arith, some))

pub rest_of-requires-clause-there : goal.rest_of-requires-clause-there
rest_of-requires-clause-there c =
    let u = is_under c.args.nodes.now c.args.head c.requires.tree c.args.key c.index-node.result.now c.in-Some.parent c.index-node.ensures (sym c.key.ensures ∙ c.in-Some.is) in
    contains_key c.args.nodes.now c.in-Some.parent u.above u.there

pub returns : goal.returns
returns c = λ prefix stands some.
    let n = c.index-node.result.now in
    let same : n.prefix ≡ prefix = sym (ap (λ (z : Node). z.prefix) (same_Some stands.node n (sym stands.there ∙ c.index-node.ensures))) ∙ stands.prefix_is in
    let up = above_stands c.args.nodes.now c.args.head c.requires.tree c.args.key 0 prefix n stands c.index-node.ensures c.in-Some.parent (sym c.key.ensures ∙ c.in-Some.is) in (
      c.in-Some.parent,
      subst (λ p. IsRest c.args.nodes.now c.args.mark c.in-Some.parent 1 (p / 64) (p % 64 + 1) c.rest_of.result) same
          (c.rest_of.ensures 1 (subst (λ p. StandsAt c.args.nodes.now c.in-Some.parent 1 (p / 64)) (sym same) up)),
    )
