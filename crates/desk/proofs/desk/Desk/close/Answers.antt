use Rattle.std.proofs.Common.{sym, subst}
use Rattle.machine.specs.Step.{Step}
use Rattle.machine.specs.declared.event.Event.TheVariants as event
use Rattle.desk.proofs.Tables.{closed_reply, no_places, table_closed}
use Rattle.desk.proofs.desk.Desk.close.Goals as goal

pub close-requires : goal.close-requires
close-requires g c = record { came = λ _. c.self.invariant.0.opened _ _ (sym c.in-Some.ensures.value) }

pub invariant_of-self-2 : goal.invariant_of-self-2
invariant_of-self-2 g c =
    let was = sym c.in-Some.ensures.value in
    let names = c.self.invariant.0.named _ _ was in
    let step = subst (λ r. Step c.self.inside.solo.world.core (event.Close (record { 0 = c.in-Some.handle.number })) r c.close.new.self.world.core) (closed_reply _ (c.close.ensures.answers names)) (c.close.ensures.closed names) in
    (table_closed _ _ _ _ _ c.in-Some.handle c.self.invariant.0 was step c.close.ensures.errors c.in-Some.ensures.updates.changed c.in-Some.ensures.updates.others, no_places c.close.new.self _ c.forget.ensures)
