use Rattle.std.proofs.Common.{ap, ◌∙◌}
use Rattle.mapping.specs.Pages.{Pages}
use Rattle.writeback.proofs.PickLemmas.{tags_each}
use Rattle.writeback.proofs.picks.sync_begin.Goals as goal

pub returns : goal.returns
returns c = c.retag.ensures.retagged
    ∙ ap (λ (p : Pages). record c.args.mapping.now { pages = p })
    (tags_each c.args.mapping.now.pages c.args.first.0 c.args.last.0)
