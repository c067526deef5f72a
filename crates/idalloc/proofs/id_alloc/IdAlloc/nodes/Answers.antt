use Rattle.std.proofs.Common.{sym, ap, ◌∙◌}
use Rattle.idalloc.specs.Bitmaps.{numbers}
use Rattle.idalloc.specs.Ids.{Ids}
use Rattle.idalloc.proofs.NumberLemmas.{no_numbers, numbers-empty}
use Rattle.idalloc.proofs.TidyLemmas.{none_used}
use Rattle.idalloc.proofs.id_alloc.IdAlloc.nodes.Goals as goal

pub returns : goal.returns
returns c =
    let used_is = ap (λ (i : Ids). i.used) c.self.view_is in
    let m = c.self.inside.bitmaps in
    (λ none. c.nodes.ensures.empty.0 (none_used m c.self.invariant.0 c.nodes.ensures.fits (no_numbers m (used_is ∙ none))), λ zero. sym used_is ∙ ap numbers (c.nodes.ensures.empty.1 zero) ∙ numbers-empty)
