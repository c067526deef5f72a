use Rattle.shared.proofs.Owning.{only_filled}
use Rattle.shared.proofs.Settling.{other_on, settles_on}
use Rattle.std.proofs.lemmas.Result.{IfErr-weaker}
use Rattle.shared.specs.Denials.{IsDenied}
use Rattle.shared.specs.Own.{IsHelp}
use Rattle.shared.proofs.Making.{help_on, help_room}
use Rattle.shared.proofs.cache.SharedCache.fill.Goals as goal

pub returns-clause-only : goal.returns-clause-only
returns-clause-only g c =
    only_filled c.args.demand.handle c.args.seat.now c.make_way.new.seat c.fill_once.new.seat c.make_way.ensures.only
    c.fill_once.ensures.only

pub returns-clause-page : goal.returns-clause-page
returns-clause-page g c =
    other_on c.args.page c.args.seat.now c.make_way.new.seat c.fill_once.new.seat c.make_way.ensures.only
    c.fill_once.ensures.page

pub returns-clause-denied : goal.returns-clause-denied
returns-clause-denied g c =
    let h = c.args.demand.handle in
    IfErr-weaker c.fill_once.result (IsDenied g.B.Naming.files g.B.Naming.sizes g.B.Naming.name g.B.Naming.whole (IsHelp h) c.make_way.new.seat c.fill_once.new.seat)
    (IsDenied g.B.Naming.files g.B.Naming.sizes g.B.Naming.name g.B.Naming.whole (IsHelp h) c.args.seat.now c.fill_once.new.seat)
    (λ d q. help_on g.B.Naming.files g.B.Naming.sizes g.B.Naming.name g.B.Naming.whole h c.args.seat.now c.make_way.new.seat c.fill_once.new.seat d c.make_way.ensures.goes q)
    c.fill_once.ensures.denied

pub returns-clause-settled : goal.returns-clause-settled
returns-clause-settled g c =
    settles_on g.B.Naming.name c.args.seat.now c.make_way.new.seat c.fill_once.new.seat
    c.in_default.ensures.settled c.fill_once.ensures.settled

pub returns-in-Err-clause-denied : goal.returns-in-Err-clause-denied
returns-in-Err-clause-denied g c =
    help_room g.B.Naming.files g.B.Naming.sizes g.B.Naming.name g.B.Naming.whole c.args.demand.handle c.args.seat.now c.make_way.new.seat
    c.in-Err.denied c.in-Err.ensures.denied
