use Rattle.std.proofs.Common.{sym, subst}
use Rattle.std.specs.FinSet as set
use Rattle.idalloc.specs.Floor.{IsFloor}
use Rattle.idalloc.proofs.FloorLemmas.{floor-remove}
use Rattle.idalloc.proofs.floor.lowered.Goals as goal

pub returns : goal.returns
returns c = λ used below. subst (IsFloor (set.remove used c.args.number)) (sym c.min.ensures) (floor-remove used c.args.floor c.args.number below)
