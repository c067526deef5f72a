use Rattle.std.proofs.Common.{◌∙◌, ap}
use Rattle.xarray.specs.MarkedArray.{is_marked, entry_at}
use Rattle.mapping.specs.Pages.{FilePages, has_at}
use Rattle.mapping.proofs.ArrayLemmas.{is_marked-pages_of}
use Rattle.mapping.proofs.mapping.Mapping.has_tag.Goals as goal

pub returns : goal.returns
returns c =
    c.get_mark.ensures ∙ ap (λ mark. is_marked mark (entry_at c.self.inside.pages.ranges c.args.index.0)) c.mark_of.ensures
    ∙ is_marked-pages_of c.self.inside.pages.ranges c.self.invariant.each c.args.index.0 c.args.tag ∙ ap (λ (f : FilePages). has_at f.pages c.args.index.0 c.args.tag) c.self.view_is
