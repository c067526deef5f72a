use Rattle.std.proofs.Common.{sym, ap, ◌∙◌}
use Rattle.std.proofs.lemmas.Option.{same_Some}
use Rattle.radix.specs.declared.node.Node.{Node}
use Rattle.radix.proofs.twig.rest_of.Goals as goal

pub returns : goal.returns
returns c = λ level stands.
    let same = same_Some stands.node c.index-node.result.now (sym stands.there ∙ c.index-node.ensures) in
    record {
      there = c.index-node.ensures;
      level_is = sym (ap (λ (z : Node). z.level) same) ∙ stands.level_is;
      prefix_is = sym (ap (λ (z : Node). z.prefix) same) ∙ stands.prefix_is;
      bits_are = c.bits_above.ensures;
    }
