use Rattle.std.proofs.Common.{ap, ◌∙◌}
use Rattle.machine.specs.State.{is_filling}
use Rattle.cachecore.proofs.CoreViews.{state_is}
use Rattle.cachecore.proofs.cache.CacheCore.is_filling.Goals as goal

pub returns : goal.returns
returns c = c.is_filling.ensures ∙ ap (λ s. is_filling s c.args.file c.args.page) (state_is c.self.view_is)
