use Rattle.std.proofs.Common.{ap, ◌∙◌}
use Rattle.cachecore.specs.Wants.{wants}
use Rattle.world.specs.Stepping.{WorldSeen}
use Rattle.world.proofs.world.World.wants.Goals as goal

pub returns : goal.returns
returns g c = c.wants.ensures ∙ ap (λ (w : WorldSeen). wants w.core c.args.demand) c.self.view_is
