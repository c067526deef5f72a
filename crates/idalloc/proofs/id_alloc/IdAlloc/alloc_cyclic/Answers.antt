use Rattle.std.proofs.Common.{sym, subst, ◌∙◌}
use Rattle.idalloc.specs.Bitmaps.{numbers}
use Rattle.idalloc.specs.Floor.{IsFloor}
use Rattle.idalloc.proofs.FloorLemmas.{floor-insert}
use Rattle.idalloc.proofs.NumberLemmas.{contains-numbers}
use Rattle.idalloc.proofs.SearchLemmas.{cyclic_unused}
use Rattle.idalloc.proofs.id_alloc.IdAlloc.alloc_cyclic.Goals as goal

pub take-requires-clause-clear : goal.take-requires-clause-clear
take-requires-clause-clear c =
    sym (contains-numbers c.self.inside.bitmaps c.in-Some.unused.number)
    ∙ cyclic_unused (numbers c.self.inside.bitmaps) c.self.inside.next c.args.min c.args.max c.in-Some.unused.number c.in-Some.wrapped c.in-Some.ensures.0

pub invariant_of-self-2 : goal.invariant_of-self-2
invariant_of-self-2 c =
    let taken = c.in_ok-take.ensures.taken in
    (taken.0, subst (λ used. IsFloor used c.self.inside.floor) (sym taken.1) (floor-insert (numbers c.self.inside.bitmaps) c.self.inside.floor c.in-Some.unused.number c.self.invariant.1))
