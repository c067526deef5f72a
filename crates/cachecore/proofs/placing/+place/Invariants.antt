use Rattle.std.proofs.Common.{◌-◌}
use Rattle.cachecore.proofs.placing.+place.Given as goal

abbrev pub decreases-place : goal.decreases-place
decreases-place l = l.span.end - l.next
