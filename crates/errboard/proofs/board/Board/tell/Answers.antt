use Rattle.std.proofs.Common.{ap, subst}
use mathlib.Core.List.{IsPrefix}
use Rattle.errboard.specs.Shown.{PassSeen, known_of}
use Rattle.errboard.proofs.Cuts.{informed_grows}
use Rattle.errboard.proofs.board.Board.tell.Goals as goal

pub returns-clause-grows : goal.returns-clause-grows
returns-clause-grows c =
    subst (λ (p : PassSeen). IsPrefix p.known (known_of c.inform.new.seat.me.0)) c.pass.view_is
    (informed_grows _ _ _ _ _ _ _ _ _ _ (ap (λ m. m.0) c.pass.invariant.1) (ap (λ m. m.0) c.receipt.invariant) (ap (λ m. m.0) c.inform.ensures.seat.1))
