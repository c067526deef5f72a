use Rattle.desk.proofs.Tables.{no_places, stays_but, table_stays}
use Rattle.desk.proofs.desk.Desk.sync_all.Goals as goal

pub invariant_of-self : goal.invariant_of-self
invariant_of-self g c = (table_stays _ _ _ (stays_but _ _ c.sync_all.ensures.serves.keeps) c.self.invariant.0, no_places c.sync_all.new.self _ c.forget.ensures)
