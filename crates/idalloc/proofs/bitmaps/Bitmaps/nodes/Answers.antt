use Rattle.std.proofs.Common.{sym, ap, ◌∙◌}
use Rattle.std.specs.FinMap as map
use Rattle.idalloc.specs.Bitmaps.{Bitmaps}
use Rattle.idalloc.specs.Marked.{bitmaps}
use Rattle.idalloc.proofs.MarkLemmas.{bitmap_fits, bitmaps-empty, no_bitmaps}
use Rattle.idalloc.proofs.bitmaps.Bitmaps.nodes.Goals as goal

pub returns-clause-empty : goal.returns-clause-empty
returns-clause-empty c =
    (λ none. c.nodes.ensures.empty.0 (no_bitmaps c.self.inside.array.ranges (c.self.view_is ∙ none)), λ zero. sym c.self.view_is ∙ ap bitmaps (c.nodes.ensures.empty.1 zero) ∙ bitmaps-empty)

pub returns-clause-fits : goal.returns-clause-fits
returns-clause-fits c = λ index bits there. bitmap_fits c.self.inside.array.ranges index bits c.self.invariant (ap (λ (b : Bitmaps). map.get b index) c.self.view_is ∙ there)
