use Rattle.std.proofs.Common.{◌≡◌, ◌+◌, ◌-◌, ◌≤◌}
use Rattle.mapping.specs.declared.mapping.TheConstants.{MAX_PAGES}
use Rattle.mapping.specs.Pages.{count}
use Rattle.mapping.proofs.RetagLemmas.{before_next, tagged_before}
use Rattle.mapping.proofs.mapping.Mapping.retag.Given as goal

abbrev pub invariant-loop-found : goal.invariant-loop-found
invariant-loop-found l = record {
  low : l.tagged + l.fn.from.0 ≤ l.next.0;
  pages : l.self ≡ record l.initial.self { pages = tagged_before l.tag l.other l.fn.from.0 l.to.0 l.initial.self.pages l.next.0 };
  counts : l.tagged ≡ count (before_next l.tag l.fn.from.0 l.to.0 l.next.0) l.initial.self.pages;
}

abbrev pub decreases-loop-found : goal.decreases-loop-found
decreases-loop-found l = MAX_PAGES - l.next.0
