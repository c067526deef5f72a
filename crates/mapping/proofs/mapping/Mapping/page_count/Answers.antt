use Rattle.std.proofs.Common.{◌∙◌, ap, subst, arith}
use Rattle.std.specs.FinMap as finmap
use Rattle.mapping.specs.Pages.{FilePages, IsNumbered}
use Rattle.mapping.proofs.ArrayLemmas.{few_pages, numbered_pages}
use Rattle.mapping.proofs.mapping.Mapping.page_count.Goals as goal

pub returns-clause-pages : goal.returns-clause-pages
returns-clause-pages c = c.self.invariant.pages ∙ ap (λ (f : FilePages). finmap.len f.pages) c.self.view_is

pub returns-clause-most : goal.returns-clause-most
returns-clause-most c = omega (arith, c.self.invariant.pages, few_pages c.self.inside.pages.ranges c.self.invariant.each)

pub returns-clause-below : goal.returns-clause-below
returns-clause-below c = subst (λ (f : FilePages). IsNumbered f.pages) c.self.view_is (numbered_pages c.self.inside.pages.ranges c.self.invariant.each)
