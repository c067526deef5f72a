use Rattle.std.proofs.Common.{sym}
use Rattle.desk.proofs.Tables.{no_places, stays_but, table_stays}
use Rattle.desk.proofs.desk.Desk.truncate.Goals as goal

pub truncate-requires : goal.truncate-requires
truncate-requires g c = record { came = λ _. c.self.invariant.0.opened _ _ (sym c.in-Some.ensures) }

pub invariant_of-self-2 : goal.invariant_of-self-2
invariant_of-self-2 g c = (table_stays _ _ _ (stays_but _ _ c.truncate.ensures.keeps) c.self.invariant.0, no_places c.truncate.new.self _ c.forget.ensures)
