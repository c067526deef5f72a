use Rattle.std.proofs.Common.{◌≡◌, ap}
use Rattle.ring.specs.declared.log.Log.{Log}
use Rattle.ring.proofs.Steps.{shows, shows_empty, opens, opens_full}
use Rattle.ring.proofs.ring.Ring.new.Goals as goal

pub push_as-requires-clause-rule : goal.push_as-requires-clause-rule
push_as-requires-clause-rule g c = (shows _ _ _ _ c.in_ok-queue.ensures.3, shows_empty _ _ c.in_ok-queue.ensures.3)

pub pop_as-requires-clause-rule : goal.pop_as-requires-clause-rule
pop_as-requires-clause-rule g c = let one : _ ≡ 1 = ap (λ (y : Log). y.stage) c.in-Ok.ensures.rule in (opens _ _ one, opens_full _ _ one)
