use Rattle.std.proofs.Common.{sym, subst}
use Rattle.cachecore.specs.Standing as standing
use Rattle.filesvc.specs.Seen.{SoloSeen}
use Rattle.desk.proofs.Tables.{same_polled, stays_polled, stays_set, table_same}
use Rattle.desk.proofs.desk.Desk.poll_error.Goals as goal

pub poll_error-requires : goal.poll_error-requires
poll_error-requires g c = record { came = λ _. c.self.invariant.0.opened _ _ (sym c.in-Some.ensures.value) }

pub invariant_of-self-2 : goal.invariant_of-self-2
invariant_of-self-2 g c = (
  table_same _ _ _ _ _ _ (stays_polled _ _ c.poll_error.ensures.same) c.self.invariant.0 (sym c.in-Some.ensures.value) (same_polled _ _ _ c.poll_error.result (c.poll_error.ensures.answers (c.self.invariant.0.named _ _ (sym c.in-Some.ensures.value))) c.poll_error.ensures.told),
  λ places is. subst (λ (s : SoloSeen). standing.Tells s.world.core places) (sym c.poll_error.ensures.same) (c.self.invariant.1 places is),
)

pub returns-clause-stays : goal.returns-clause-stays
returns-clause-stays g c = rw (← c.self.view_is) (stays_set _ _ _ _ _ (sym c.in-Some.ensures.value) (same_polled _ _ _ c.poll_error.result (c.poll_error.ensures.answers (c.self.invariant.0.named _ _ (sym c.in-Some.ensures.value))) c.poll_error.ensures.told).file)
