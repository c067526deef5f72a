use Rattle.std.proofs.Common.{not, rules}
use Rattle.pc_types.specs.declared.tags.Tag.TheVariants.{Dirty}
use Rattle.mapping.specs.Pages.{has_at}
use Rattle.pagestore.proofs.kept.KeptFile.has_more_clean.Goals as goal

pub returns : goal.returns
returns c =
    c.has_more.ensures (λ p. not (has_at c.args.self.now.mapping.pages p Dirty))
    (λ p answer from within told. search rules)
