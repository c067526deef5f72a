use Rattle.torture.proofs.Handles.{desk_closed}
use Rattle.torture.proofs.desk.Desk.close.Goals as goal

pub invariant_of-self-2 : goal.invariant_of-self-2
invariant_of-self-2 g c =
    desk_closed c.self.inside.solo c.close.new.self c.in-Some.handle c.pop.new.self.items c.self.inside.handles.items c.self.inside.stray
    c.close.result c.in-Some.ensures.items c.close.ensures.closed (λ n. (c.close.ensures.foreign n).2) c.close.ensures.errors c.self.invariant
