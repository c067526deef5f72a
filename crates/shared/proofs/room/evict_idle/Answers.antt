use Rattle.std.proofs.Common.{ap, subst, sym, ◌∙◌}
use Rattle.std.specs.Prelude.{if◌then◌else◌}
use Rattle.machine.specs.Tests.{has_idle}
use Rattle.machine.specs.declared.event.Event.TheVariants as event
use Rattle.held.proofs.Seats.{goes_by, goes_on}
use Rattle.shared.specs.Workers.{LetsGo}
use Rattle.shared.proofs.Finding.{finds_none_idle}
use Rattle.shared.proofs.Letting.{evicted_gone}
use Rattle.shared.proofs.Making.{goes_denied}
use Rattle.shared.proofs.Owning.{only_evict_denied, only_evicts}
use Rattle.shared.proofs.Rooming.{evict_none, full_evict}
use Rattle.shared.proofs.room.evict_idle.Goals as goal

pub returns-in-Ok-clause-goes : goal.returns-in-Ok-clause-goes
returns-in-Ok-clause-goes g c =
    goes_on c.args.seat.now c.age.new.seat c.evict.new.seat (goes_by _ _ _ _ _ _ _ c.in_default.ensures.made)
    (goes_by _ _ _ _ _ _ _ c.in-Ok.ensures.made)

pub returns-in-Err-evict-clause-goes : goal.returns-in-Err-evict-clause-goes
returns-in-Err-evict-clause-goes g c =
    goes_on c.args.seat.now c.age.new.seat c.evict.new.seat (goes_by _ _ _ _ _ _ _ c.in_default.ensures.made)
    (goes_denied g.B.Naming.files g.B.Naming.sizes g.B.Naming.name g.B.Naming.whole event.Evict c.age.new.self c.evict.new.self c.age.new.seat c.evict.new.seat c.in-Err-evict.denied
    c.in-Err-evict.ensures.denied)

pub returns-in-Ok-clause-gone : goal.returns-in-Ok-clause-gone
returns-in-Ok-clause-gone g c =
    subst (λ b. LetsGo (if b then 1 else 0) c.args.seat.now c.evict.new.seat) (sym c.is_some.ensures)
    (evicted_gone _ c.in-Ok.page _ _ _ _ _ _ _ _ _ c.in_default.ensures.made c.in-Ok.ensures.made)

pub returns-in-Ok-clause-only : goal.returns-in-Ok-clause-only
returns-in-Ok-clause-only g c =
    only_evicts _ _ _ _ _ _ _ _ _ _ _ c.in_default.ensures.made c.in-Ok.ensures.made

pub returns-in-Err-evict-clause-only : goal.returns-in-Err-evict-clause-only
returns-in-Err-evict-clause-only g c =
    only_evict_denied g.B.Naming.files g.B.Naming.sizes g.B.Naming.name g.B.Naming.whole _ _ _ _ _ _ _ _ _ _ c.in_default.ensures.made c.in-Err-evict.ensures.denied

-- no page was idle, and none is after it
pub returns-in-Ok-clause-found : goal.returns-in-Ok-clause-found
returns-in-Ok-clause-found g c = λ gave.
    let none = evict_none c.in-Ok.page _ _ _ _ _ _ _ _ _ c.in_default.ensures.made c.in-Ok.ensures.made
    (sym c.is_some.ensures ∙ gave) in
    finds_none_idle g.B.Naming.files g.B.Naming.sizes g.B.Naming.name c.evict.new.seat c.evict.new.self.log.history
    c.evict.new.self.core.state c.in-Ok.ensures.made.entered.sees c.core.ensures.named (ap has_idle none.1 ∙ none.0)

-- a page ages, and the trail is full then
pub returns-in-Err-evict-clause-denied : goal.returns-in-Err-evict-clause-denied
returns-in-Err-evict-clause-denied g c =
    full_evict g.B.Naming.files g.B.Naming.sizes g.B.Naming.name g.B.Naming.whole c.age.new.self c.evict.new.self c.args.seat.now
    c.age.new.seat c.evict.new.seat c.in-Err-evict.denied (goes_by _ _ _ _ _ _ _ c.in_default.ensures.made)
    c.in-Err-evict.ensures.denied
