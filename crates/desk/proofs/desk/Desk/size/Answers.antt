use Rattle.std.proofs.Common.{sym, subst}
use Rattle.cachecore.specs.Standing as standing
use Rattle.filesvc.specs.Seen.{SoloSeen}
use Rattle.desk.proofs.Tables.{same_moved, stays_before, stays_set, table_same}
use Rattle.desk.proofs.desk.Desk.size.Goals as goal

pub seek-requires : goal.seek-requires
seek-requires g c = record { came = λ _. c.self.invariant.0.opened _ _ (sym c.in-Some.ensures.value) }

pub invariant_of-self-2 : goal.invariant_of-self-2
invariant_of-self-2 g c = (
  table_same _ _ _ _ _ _ (stays_before _ _ c.seek.ensures.same) c.self.invariant.0 (sym c.in-Some.ensures.value) (same_moved _ _ c.seek.result c.seek.ensures.cursor c.seek.ensures.kept),
  λ places is. subst (λ (s : SoloSeen). standing.Tells s.world.core places) (sym c.seek.ensures.same) (c.self.invariant.1 places is),
)

pub returns-clause-stays : goal.returns-clause-stays
returns-clause-stays g c = rw (← c.self.view_is) (stays_set _ _ _ _ _ (sym c.in-Some.ensures.value) (same_moved _ _ c.seek.result c.seek.ensures.cursor c.seek.ensures.kept).file)
