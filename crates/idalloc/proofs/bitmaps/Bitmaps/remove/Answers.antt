use Rattle.std.proofs.Common.{sym, ap, subst, ◌∙◌}
use Rattle.std.specs.FinMap as map
use Rattle.xarray.specs.MarkedArray.{Array}
use Rattle.idalloc.specs.Bitmaps.{Bitmaps}
use Rattle.idalloc.specs.Marked.{AreMarked, bitmaps}
use Rattle.idalloc.proofs.MarkLemmas.{erased-marked, erased-bitmaps}
use Rattle.idalloc.proofs.bitmaps.Bitmaps.remove.Goals as goal

pub invariant_of-self : goal.invariant_of-self
invariant_of-self c = subst (λ (a : Array). AreMarked a.ranges) (sym c.erase-bits.ensures.erases) (erased-marked c.self.inside.array.ranges c.args.index c.self.invariant)

pub returns : goal.returns
returns c = ap (λ (a : Array). bitmaps a.ranges) c.erase-bits.ensures.erases ∙ erased-bitmaps c.self.inside.array.ranges c.args.index c.self.invariant ∙ ap (λ (b : Bitmaps). map.remove b c.args.index) c.self.view_is
