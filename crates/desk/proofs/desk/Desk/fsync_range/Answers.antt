use Rattle.std.proofs.Common.{sym, subst, ◌∙◌}
use Rattle.std.specs.Prelude.{OnOk}
use Rattle.filesvc.specs.Seen.{HandleSeen}
use Rattle.filesvc.specs.Service.{AreOnDevice}
use Rattle.desk.proofs.Tables.{no_places, same_told, some_is, stays_but, stays_set, table_same}
use Rattle.desk.proofs.desk.Desk.fsync_range.Goals as goal

pub fsync_range-requires : goal.fsync_range-requires
fsync_range-requires g c = record { came = λ _. c.self.invariant.0.opened _ _ (sym c.in-Some.ensures.value) }

pub invariant_of-self-2 : goal.invariant_of-self-2
invariant_of-self-2 g c = (table_same _ _ _ _ _ _ (stays_but _ _ c.fsync_range.ensures.serves.keeps) c.self.invariant.0 (sym c.in-Some.ensures.value) (same_told _ _ _ c.fsync_range.ensures.told), no_places c.fsync_range.new.self _ c.forget.ensures)

pub returns-clause-synced : goal.returns-clause-synced
returns-clause-synced g c = rw (← c.self.view_is)
    (λ h is tells. subst (λ (x : HandleSeen). OnOk c.fsync_range.result (AreOnDevice c.fsync_range.new.self x.file c.args.first c.args.last)) (some_is (c.in-Some.ensures.value ∙ is)) (c.fsync_range.ensures.synced tells))

pub returns-clause-stays : goal.returns-clause-stays
returns-clause-stays g c = rw (← c.self.view_is) (stays_set _ _ _ _ _ (sym c.in-Some.ensures.value) (same_told _ _ _ c.fsync_range.ensures.told).file)
