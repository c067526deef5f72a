use Rattle.std.proofs.Common.{◌-◌}
use Rattle.pagestore.proofs.pages.Pages.+write.Given as goal

abbrev pub decreases-write : goal.decreases-write
decreases-write l = l.span.end - l.page
