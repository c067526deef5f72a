use Rattle.std.proofs.Common.{◌≡◌, ◌∙◌, ap, refl, subst, sym}
use Rattle.std.specs.Prelude.{None}
use Rattle.cachecore.specs.Wants.{IsFirstToWrite}
use Rattle.runs.specs.Restart.{IsClean}
use Rattle.machine.specs.declared.event.Reply.TheVariants as reply
use Rattle.orderly.proofs.Enough.{all_clean}
use Rattle.filesvc.specs.Seen.{SoloSeen}
use Rattle.filesvc.proofs.Laws.{helps_refl, helps_trans}
use Rattle.filesvc.proofs.Load.{written_less}
use Rattle.filesvc.proofs.RoomLaws.{faulted_before}
use Rattle.filesvc.proofs.Writing.{flush_fails}
use Rattle.filesvc.proofs.solo.Solo.write_all.Goals as goal

pub pages-init : goal.pages-init
pages-init g c = record { helps = λ k page. helps_refl c.args.self.now; attempts = refl }

pub pages-smaller : goal.pages-smaller
pages-smaller g c = (written_less c.pages.self c.flush_file.new.self c.in-Some.file c.in-Written.ensures.flush).less

pub pages-preserved : goal.pages-preserved
pages-preserved g c = record {
  helps = λ k page. helps_trans _ _ _ (c.pages.invariant.helps k page) (c.flush_file.ensures.helps k page);
  attempts = c.flush_file.ensures.attempts ∙ c.pages.invariant.attempts;
}

pub returns-in-Failed-clause-serves : goal.returns-in-Failed-clause-serves
returns-in-Failed-clause-serves g c = (helps_trans _ _ _ (c.pages.invariant.helps 0 None) (c.flush_file.ensures.helps 0 None)).serves

pub returns-in-Failed-clause-refused : goal.returns-in-Failed-clause-refused
returns-in-Failed-clause-refused g c =
    faulted_before c.args.self.now c.pages.self c.flush_file.new.self (c.pages.invariant.helps 0 None).serves c.in-Failed.ensures.flush.faulted

pub returns-in-Refused-clause-serves : goal.returns-in-Refused-clause-serves
returns-in-Refused-clause-serves g c = (helps_trans _ _ _ (c.pages.invariant.helps 0 None) (c.flush_file.ensures.helps 0 None)).serves

pub returns-in-Refused-clause-refused : goal.returns-in-Refused-clause-refused
returns-in-Refused-clause-refused g c =
    faulted_before c.args.self.now c.pages.self c.flush_file.new.self (c.pages.invariant.helps 0 None).serves
    (flush_fails c.pages.self c.flush_file.new.self c.in-Some.file (reply.Refused c.in-Refused.refusal) (subst (λ (s : SoloSeen). IsFirstToWrite s.world.core c.in-Some.file.0) c.self.view_is c.in-Some.ensures.some) (λ e. cc)
    c.in-Refused.ensures.flush)

pub returns-in_default-flush_file : goal.returns-in_default-flush_file
returns-in_default-flush_file g c = record {
  serves = (helps_trans _ _ _ (c.pages.invariant.helps 0 None) (c.flush_file.ensures.helps 0 None)).serves;
  attempts = c.flush_file.ensures.attempts ∙ c.pages.invariant.attempts;
  clean = tt;
  refused =
      faulted_before c.args.self.now c.pages.self c.flush_file.new.self (c.pages.invariant.helps 0 None).serves
      (flush_fails c.pages.self c.flush_file.new.self c.in-Some.file c.flush_file.result (subst (λ (s : SoloSeen). IsFirstToWrite s.world.core c.in-Some.file.0) c.self.view_is c.in-Some.ensures.some) c.in_default-flush_file.not-Written
      c.flush_file.ensures.flush);
}

pub returns-clause-serves : goal.returns-clause-serves
returns-clause-serves g c = (c.pages.invariant.helps 0 None).serves

pub returns-clause-clean : goal.returns-clause-clean
returns-clause-clean g c =
    subst (λ (s : SoloSeen). IsClean s.world.core) c.self.view_is
    (all_clean c.self.inside.world.core c.self.invariant.serving.orderly c.self.invariant.serving.rests.requests
    (λ f p page is. c.in_default.ensures.none f))
