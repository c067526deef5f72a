use Rattle.std.proofs.Common.{sym, ap, subst, ◌∙◌, None}
use Rattle.idalloc.specs.Bitmaps.{Bitmaps, IsTidy, numbers}
use Rattle.idalloc.specs.Floor.{IsFloor}
use Rattle.idalloc.proofs.FloorLemmas.{floor-empty}
use Rattle.idalloc.proofs.NumberLemmas.{numbers-empty}
use Rattle.idalloc.proofs.TidyLemmas.{tidy-empty}
use Rattle.idalloc.proofs.id_alloc.IdAlloc.new.Goals as goal

pub invariant_of-result : goal.invariant_of-result
invariant_of-result c =
    let used = ap numbers c.new.ensures ∙ numbers-empty in
    (subst (λ (m : Bitmaps). IsTidy m None) (sym c.new.ensures) tidy-empty, subst (λ used. IsFloor used 0) (sym used) floor-empty)

pub returns-clause-used : goal.returns-clause-used
returns-clause-used c = ap numbers c.new.ensures ∙ numbers-empty
