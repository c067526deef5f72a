use Rattle.std.proofs.Common.{inl, inr, refl, subst, sym}
use Rattle.filesvc.specs.Rests.{IsNoted}
use Rattle.filesvc.proofs.WorldLaws.{carried_rests, flush_begins, flush_writes, no_job, quiet_rests}
use Rattle.filesvc.proofs.requests.flush_page.Goals as goal

pub returns-in-Answered : goal.returns-in-Answered
returns-in-Answered g c =
    let made = c.in-Answered.ensures in
    let quiet = no_job c.in-Answered.reply made.0 in
    record {
      rests = quiet_rests _ _ _ _ _ (flush_begins c.args.file) quiet made.1 c.requires;
      made = inl (quiet, made.1, refl);
    }

pub returns-in-Ended : goal.returns-in-Ended
returns-in-Ended g c =
    let made = c.in-Ended.ensures in
    record {
      rests = carried_rests _ _ _ _ _ _ _ (flush_begins c.args.file) made.2 made.8 c.requires;
      made = inr (
        made.0,
        made.1,
        made.2,
        made.8,
        subst (λ o. IsNoted c.args.recorder.now o c.in-Ended.reply c.note.new.recorder) (sym (flush_writes made.1.core made.0.0 made.3 _ made.4 made.5 made.6)) c.note.ensures,
      );
    }
