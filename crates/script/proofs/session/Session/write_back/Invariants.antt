use Rattle.script.proofs.SyncLaws.{IsWriting, serials_left}
use Rattle.script.proofs.session.Session.write_back.Given as goal

abbrev pub invariant-writes : goal.invariant-writes
invariant-writes l = IsWriting l.initial.self l.sync l.self

abbrev pub decreases-writes : goal.decreases-writes
decreases-writes l = serials_left l.self
