use Rattle.desk.proofs.Tables.{no_places, stays_created, table_stays}
use Rattle.desk.proofs.desk.Desk.create.Goals as goal

pub invariant_of-self : goal.invariant_of-self
invariant_of-self g c = (table_stays _ _ _ (stays_created _ _ c.create.result c.create.ensures.step c.create.ensures.errors) c.self.invariant.0, no_places c.create.new.self _ c.forget.ensures)
