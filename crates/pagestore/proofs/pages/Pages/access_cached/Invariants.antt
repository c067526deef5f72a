use Rattle.std.proofs.Common.{◌≡◌}
use Rattle.std.specs.Prelude.{take}
use Rattle.machine.specs.PageLists.{each_accessed, flagged}
use Rattle.pagestore.specs.Store.{with_lists}
use Rattle.pagestore.proofs.pages.Pages.access_cached.Given as goal

abbrev pub invariant-loop-at : goal.invariant-loop-at
invariant-loop-at l =
    l.self ≡ with_lists l.fn.self (each_accessed l.file (flagged l.first (take l.at l.cached)) l.fn.self.lists)
