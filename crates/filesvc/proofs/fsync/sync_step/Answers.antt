use Rattle.std.proofs.Common.{inl, inr, refl, subst, sym}
use Rattle.filesvc.specs.Rests.{IsNoted}
use Rattle.filesvc.specs.Syncs.{service_of}
use Rattle.filesvc.proofs.SyncLaws.{no_job, renamed, stepped_service}
use Rattle.filesvc.proofs.WorldLaws.{flush_writes}
use Rattle.filesvc.proofs.fsync.sync_step.Goals as goal

pub returns-in-Answered : goal.returns-in-Answered
returns-in-Answered g c =
    let made = c.in-Answered.ensures in
    let quiet = no_job c.in-Answered.reply made.0 in
    let x = stepped_service c.args.world.now.core.name (service_of c.args.world.now c.args.recorder.now) c.sync_at_once.new.self c.args.recorder.now c.args.recorder.now.board c.args.sync c.in-Answered.reply (inl (quiet, made.1, refl)) c.requires in
    record { serving = renamed _ _ _ _ x.0; serves = x.1; turn = (quiet, made.1) }

pub returns-in-Ended : goal.returns-in-Ended
returns-in-Ended g c =
    let made = c.in-Ended.ensures in
    let noted = subst (λ o. IsNoted c.args.recorder.now o c.in-Ended.reply c.note.new.recorder) (sym (flush_writes made.1.core made.0.0 made.3 _ made.4 made.5 made.6)) c.note.ensures in
    let x = stepped_service c.args.world.now.core.name (service_of c.args.world.now c.args.recorder.now) c.sync_at_once.new.self c.note.new.recorder c.args.recorder.now.board c.args.sync c.in-Ended.reply (inr (made.0, made.1, made.2, made.8, noted)) c.requires in
    record {
      serving = renamed _ _ _ _ x.0;
      serves = x.1;
      turn = (made.0, c.in-Ended.reply, (made.1, inl made.2, made.8));
    }
