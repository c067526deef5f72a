use Rattle.desk.proofs.Tables.{found_now, none_now, told_places}
use Rattle.desk.proofs.desk.Desk.next_extent.Goals as goal

pub returns-clause-found : goal.returns-clause-found
returns-clause-found g c = rw (← c.self.view_is) (found_now c.self.inside.solo _ _ c.in_ok-places.places c.next_of-next.result (told_places c.self.inside.solo c.self.inside.places _ c.self.invariant.1 c.in_ok-places.ensures.told) c.next_of-next.ensures.found)

pub returns-clause-none : goal.returns-clause-none
returns-clause-none g c = rw (← c.self.view_is) (none_now c.self.inside.solo _ _ c.in_ok-places.places c.next_of-next.result (told_places c.self.inside.solo c.self.inside.places _ c.self.invariant.1 c.in_ok-places.ensures.told) c.next_of-next.ensures.none)
