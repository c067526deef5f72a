use Rattle.std.proofs.Common.{◌<◌, Some, None, ap, sym, subst, ◌∙◌}
use Rattle.xarray.specs.MarkedArray.{has_mark}
use Rattle.mapping.specs.declared.mapping.TheConstants.{MAX_PAGES}
use Rattle.mapping.specs.declared.page.FoundPage.{FoundPage}
use Rattle.mapping.specs.Pages.{FilePages, IsNumbered, lowest, is_tagged}
use Rattle.mapping.proofs.ArrayLemmas.{finds_tagged, finds_page, numbered_pages}
use Rattle.mapping.proofs.mapping.Mapping.find_tagged.Goals as goal

pub returns-in_err-found-clause-lowest : goal.returns-in_err-found-clause-lowest
returns-in_err-found-clause-lowest c =
    c.from_residual.ensures ∙ finds_tagged c.self.inside.pages.ranges c.self.invariant.each c.args.tag c.mark_of.result c.args.from.0 c.args.to.0 c.mark_of.ensures None c.in_err-found.ensures
    ∙ ap (λ (f : FilePages). lowest (is_tagged c.args.tag c.args.from.0 c.args.to.0) f.pages) c.self.view_is

pub found_page-requires : goal.found_page-requires
found_page-requires c = (finds_page c.self.inside.pages.ranges c.self.invariant.each (has_mark c.mark_of.result) c.args.from.0 c.args.to.0 c.in_ok-found.found (sym c.in_ok-found.ensures)).0

pub returns-clause-lowest : goal.returns-clause-lowest
returns-clause-lowest c =
    ap Some c.found_page.ensures ∙ finds_tagged c.self.inside.pages.ranges c.self.invariant.each c.args.tag c.mark_of.result c.args.from.0 c.args.to.0 c.mark_of.ensures (Some c.in_ok-found.found) c.in_ok-found.ensures
    ∙ ap (λ (f : FilePages). lowest (is_tagged c.args.tag c.args.from.0 c.args.to.0) f.pages) c.self.view_is

pub returns-clause-numbered : goal.returns-clause-numbered
returns-clause-numbered c = subst (λ (f : FoundPage). f.page.0 < MAX_PAGES) (sym c.found_page.ensures) (finds_page c.self.inside.pages.ranges c.self.invariant.each (has_mark c.mark_of.result) c.args.from.0 c.args.to.0 c.in_ok-found.found (sym c.in_ok-found.ensures)).1

pub returns-in_err-found-clause-below : goal.returns-in_err-found-clause-below
returns-in_err-found-clause-below c = subst (λ (f : FilePages). IsNumbered f.pages) c.self.view_is (numbered_pages c.self.inside.pages.ranges c.self.invariant.each)

pub returns-clause-below : goal.returns-clause-below
returns-clause-below c = subst (λ (f : FilePages). IsNumbered f.pages) c.self.view_is (numbered_pages c.self.inside.pages.ranges c.self.invariant.each)
