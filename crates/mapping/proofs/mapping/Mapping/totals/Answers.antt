use Rattle.std.proofs.Common.{◌∙◌, ap}
use Rattle.mapping.specs.Pages.{FilePages, totals_of}
use Rattle.mapping.specs.View.{pages_of}
use Rattle.mapping.proofs.TotalLemmas.{all_totals}
use Rattle.mapping.proofs.mapping.Mapping.totals.Goals as goal

pub returns : goal.returns
returns c = all_totals c.self.inside.totals (pages_of c.self.inside.pages.ranges) c.self.invariant.tags ∙ ap (λ (f : FilePages). totals_of f.pages) c.self.view_is
