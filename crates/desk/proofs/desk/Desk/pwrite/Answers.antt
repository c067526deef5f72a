use Rattle.std.proofs.Common.{sym}
use Rattle.desk.proofs.Tables.{no_places, stays_but, table_stays}
use Rattle.desk.proofs.desk.Desk.pwrite.Goals as goal

pub write_any-requires : goal.write_any-requires
write_any-requires g c = record { «open» = c.self.invariant.0.opened _ _ (sym c.in-Some.ensures) }

pub invariant_of-self-2 : goal.invariant_of-self-2
invariant_of-self-2 g c = (table_stays _ _ _ (stays_but _ _ c.write_any.ensures.keeps) c.self.invariant.0, no_places c.write_any.new.solo _ c.forget.ensures)
