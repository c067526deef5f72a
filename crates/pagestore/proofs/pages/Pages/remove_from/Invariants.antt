use Rattle.std.specs.Prelude.{◌+◌}
use Rattle.std.specs.FinMap as map
use Rattle.std.specs.FinSet as set
use Rattle.pagestore.specs.Store.{stored_at}
use Rattle.pagestore.proofs.Removals.{IsRemoving}
use Rattle.pagestore.proofs.pages.Pages.remove_from.Given as goal

abbrev pub invariant-loop-found : goal.invariant-loop-found
invariant-loop-found l = IsRemoving l.file l.page l.fn.self l.self

abbrev pub decreases-loop-found : goal.decreases-loop-found
decreases-loop-found l = map.len (stored_at l.self l.file).pages + set.len l.self.filling
