use Rattle.std.proofs.Common.{ap, ◌∙◌}
use Rattle.cachecore.specs.Core.{Core}
use Rattle.pc_types.specs.Limits.{Sizes}
use Rattle.tests_held.proofs.Sized.{after_sized}
use Rattle.tests_held.proofs.tests.carried.Goals as goal

pub returns : goal.returns
returns g c =
    c.made.ensures ∙ ap (λ (x : Core). x.state.sizes.page) c.core.ensures.core
    ∙ ap (λ (z : Sizes). z.page) (after_sized _ _ _ _ _ c.core.ensures.named)
