use Rattle.std.proofs.Common.{sym, ap, subst, ◌∙◌}
use Rattle.xarray.specs.MarkedArray.{Array}
use Rattle.idalloc.specs.Marked.{AreMarked, bitmaps}
use Rattle.idalloc.proofs.MarkLemmas.{marked-empty, bitmaps-empty}
use Rattle.idalloc.proofs.bitmaps.Bitmaps.new.Goals as goal

pub invariant_of-result : goal.invariant_of-result
invariant_of-result c = subst (λ (a : Array). AreMarked a.ranges) (sym c.new.ensures) marked-empty

pub returns : goal.returns
returns c = ap (λ (a : Array). bitmaps a.ranges) c.new.ensures ∙ bitmaps-empty
