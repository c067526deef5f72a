use Rattle.std.proofs.Common.{inr}
use Rattle.std.proofs.lemmas.Result.{IfErr-weaker}
use Rattle.shared.specs.Denials.{IsDenied}
use Rattle.shared.specs.Own.{IsRoomEvent, IsStillDenied}
use Rattle.shared.proofs.Making.{room_on}
use Rattle.shared.proofs.Settling.{settles_on}
use Rattle.shared.proofs.cache.SharedCache.settle.Goals as goal

pub returns-clause-denied : goal.returns-clause-denied
returns-clause-denied g c =
    IfErr-weaker c.make_way.result (IsDenied g.B.Naming.files g.B.Naming.sizes g.B.Naming.name g.B.Naming.whole IsRoomEvent c.relieve.new.seat c.make_way.new.seat)
    (IsStillDenied g.B.Naming.files g.B.Naming.sizes g.B.Naming.name g.B.Naming.whole c.args.denied c.args.seat.now c.make_way.new.seat)
    (λ d q. inr (room_on g.B.Naming.files g.B.Naming.sizes g.B.Naming.name g.B.Naming.whole c.args.seat.now c.relieve.new.seat c.make_way.new.seat d c.relieve.ensures.goes q))
    c.make_way.ensures.denied

pub returns-clause-settled : goal.returns-clause-settled
returns-clause-settled g c =
    settles_on g.B.Naming.name c.args.seat.now c.relieve.new.seat c.make_way.new.seat
    c.in_default.ensures.settled c.make_way.ensures.settled
