use Rattle.machine.specs.declared.event.Event.TheVariants as event
use Rattle.shared.proofs.Making.{denied_event, makes_by}
use Rattle.shared.proofs.Owning.{only_event}
use Rattle.shared.proofs.cache.SharedCache.open.Goals as goal

pub returns-clause-only : goal.returns-clause-only
returns-clause-only g c = only_event _ _ _ _ _ _ _ c.in-Ok.ensures.made tt

pub returns-clause-answer : goal.returns-clause-answer
returns-clause-answer g c =
    makes_by (event.Open c.args.file) _ _ _ c.args.seat.now c.open_heard.new.seat c.in-Ok.opened.2 c.in-Ok.ensures.made

pub returns-in-Err-clause-denied : goal.returns-in-Err-clause-denied
returns-in-Err-clause-denied g c = λ own.
    denied_event g.B.Naming.files g.B.Naming.sizes g.B.Naming.name g.B.Naming.whole (event.Open c.args.file) _ _ _ _ _ tt c.in-Err.ensures.denied
