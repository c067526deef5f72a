use Rattle.std.proofs.Common.{◌≡◌, ◌∙◌, false, subst, sym, true}
use Rattle.std.specs.Sync.Mutex.{mutex_guard_value}
use Rattle.shared.specs.Denials.{IsDenied}
use Rattle.shared.specs.Own.{IsRoomEvent}
use Rattle.shared.proofs.Making.{denied_first}
use Rattle.shared.proofs.Rooming.{write_unwritten}
use Rattle.shared.proofs.Settling.{first_kind, first_settles, settles_first_denied}
use Rattle.shared.proofs.cache.SharedCache.flush_one.Goals as goal
use Rattle.shared.proofs.cache.SharedCache.flush_one.Goals.{else-is_written, then-is_written}

-- the page that was begun was not written
pub returns-after-is_written-clause-unwritten : goal.returns-after-is_written-clause-unwritten
returns-after-is_written-clause-unwritten g c e =
    elim c.if-is_written.branch [
      | then-is_written w ↦ absurd (let x : true ≡ false = sym w.if-is_written.true ∙ (sym w.result-is ∙ e) in cc)
      | else-is_written w ↦ write_unwritten c.in-Ok-Some.job c.in-Ok-Some.field-0-0-1 _ _
          (mutex_guard_value c.args.guard).core.state c.args.seat.now c.flush_first.new.seat c.flush_by-is_written.new.seat
          (rw c.in-Ok-Some.field-0-is at c.in-Ok-Some.ensures.writes) (c.flush_by-is_written.ensures.failed w.if-is_written.false)
    ]

pub returns-after-is_written-clause-settled : goal.returns-after-is_written-clause-settled
returns-after-is_written-clause-settled g c =
    first_settles g.B.Naming.name c.in-Ok-Some.job c.in-Ok-Some.field-0-0-1 _ _ c.args.seat.now c.flush_first.new.seat
    c.flush_by-is_written.new.seat
    (rw c.in-Ok-Some.field-0-is at c.in-Ok-Some.ensures.writes) c.flush_by-is_written.ensures.ends

pub flush_by-is_written-requires-clause-kind : goal.flush_by-is_written-requires-clause-kind
flush_by-is_written-requires-clause-kind g c =
    first_kind c.in-Ok-Some.job c.in-Ok-Some.field-0-0-1 _ _ c.args.seat.now c.flush_first.new.seat
    (rw c.in-Ok-Some.field-0-is at c.in-Ok-Some.ensures.writes) (rw c.in-Ok-Some.field-0-is at c.in-Ok-Some.ensures.job)

pub returns-in-Err-wait_or-clause-denied : goal.returns-in-Err-wait_or-clause-denied
returns-in-Err-wait_or-clause-denied g c =
    subst (IsDenied g.B.Naming.files g.B.Naming.sizes g.B.Naming.name g.B.Naming.whole IsRoomEvent c.args.seat.now c.flush_first.new.seat)
    (sym c.in-Err-wait_or.ensures.denied)
    (denied_first g.B.Naming.files g.B.Naming.sizes g.B.Naming.name g.B.Naming.whole _ _ _ _ _ c.in-Err-flush_first.ensures.denied)

pub returns-in-Ok-wait_or-clause-settled : goal.returns-in-Ok-wait_or-clause-settled
returns-in-Ok-wait_or-clause-settled g c =
    settles_first_denied g.B.Naming.files g.B.Naming.sizes g.B.Naming.whole g.B.Naming.name _ _ _ _ _ c.in-Err-flush_first.ensures.denied

pub returns-in-Err-wait_or-clause-settled : goal.returns-in-Err-wait_or-clause-settled
returns-in-Err-wait_or-clause-settled g c =
    settles_first_denied g.B.Naming.files g.B.Naming.sizes g.B.Naming.whole g.B.Naming.name _ _ _ _ _ c.in-Err-flush_first.ensures.denied
