use Rattle.std.proofs.Common.{inl, inr, refl, subst, sym}
use Rattle.filesvc.specs.Rests.{IsNoted}
use Rattle.filesvc.proofs.WorldLaws.{carried_rests, fill_begins, fill_writes, no_job, quiet_rests}
use Rattle.filesvc.proofs.requests.fill_page.Goals as goal

pub returns-in-Answered : goal.returns-in-Answered
returns-in-Answered g c =
    let made = c.in-Answered.ensures in
    let quiet = no_job c.in-Answered.reply made.0 in
    record {
      rests = quiet_rests _ _ _ _ _ (fill_begins c.args.handle c.args.page) quiet made.1 c.requires;
      made = λ errors. inl (quiet, made.1, refl);
    }

pub returns-in-Ended : goal.returns-in-Ended
returns-in-Ended g c =
    let made = c.in-Ended.ensures in
    record {
      rests = carried_rests _ _ _ _ _ _ _ (fill_begins c.args.handle c.args.page) made.2 made.8 c.requires;
      made = λ errors. inr (made.0, made.1, made.2, made.8, subst (λ o. IsNoted errors o c.in-Ended.reply errors) (sym (fill_writes made.1.core made.0.0 made.3 made.4 made.5)) refl);
    }
