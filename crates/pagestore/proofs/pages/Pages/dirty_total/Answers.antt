use Rattle.std.proofs.Common.{ap, ◌∙◌}
use Rattle.std.specs.Prelude.{sum_by}
use Rattle.machine.specs.State.{dirty_in}
use Rattle.pagestore.specs.Store.{Store}
use Rattle.pagestore.proofs.pages.Pages.dirty_total.Goals as goal

pub returns : goal.returns
returns c = c.self.invariant.dirty_is ∙ ap (λ (s : Store). sum_by dirty_in s.files) c.self.view_is
