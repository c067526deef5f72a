use Rattle.std.proofs.Common.{Some, ap, sym, ◌∙◌}
use Rattle.std.specs.Prelude.{option_map}
use Rattle.std.specs.FinMap as finmap
use Rattle.mapping.specs.Pages.{FilePages, seen}
use Rattle.mapping.proofs.ArrayLemmas.{marked_frame, marked_none, marked_there}
use Rattle.mapping.proofs.mapping.Mapping.page.Goals as goal

pub returns-in_err-entry : goal.returns-in_err-entry
returns-in_err-entry c =
    ap (option_map seen) c.from_residual.ensures ∙ sym (marked_none c.self.inside.pages.ranges c.self.invariant.each c.args.index.0 c.in_err-entry.ensures)
    ∙ ap (λ (f : FilePages). finmap.get f.pages c.args.index.0) c.self.view_is

pub mapped_page-requires : goal.mapped_page-requires
mapped_page-requires c = marked_frame c.self.inside.pages.ranges c.self.invariant.each c.args.index.0 c.in_ok-entry.entry c.in_ok-entry.ensures

pub returns : goal.returns
returns c =
    ap (λ page. Some page) c.mapped_page.ensures ∙ sym (marked_there c.self.inside.pages.ranges c.self.invariant.each c.args.index.0 c.in_ok-entry.entry c.in_ok-entry.ensures)
    ∙ ap (λ (f : FilePages). finmap.get f.pages c.args.index.0) c.self.view_is
