use Rattle.std.proofs.Common.{◌+◌, None, inl, refl}
use Rattle.std.proofs.lemmas.Result.{err_from_is_err_and}
use Rattle.machine.specs.declared.event.Event.TheVariants as event
use Rattle.filesvc.proofs.Attempts.{attempt_follows, attempt_over, follows_again, follows_refused, service_kept, truncate_asks, truncate_unsettled}
use Rattle.filesvc.specs.Seen.{SoloSeen}
use Rattle.filesvc.proofs.Demands.{cut_gains, cut_wants}
use Rattle.filesvc.proofs.Gains.{truncate_missed}
use Rattle.filesvc.proofs.CallSteps.{truncate_settled}
use Rattle.filesvc.proofs.solo.Solo.try_truncate.Goals as goal

pub invariant_of-self : goal.invariant_of-self
invariant_of-self g c = service_kept _ _ _ _ _ (event.Truncate c.args.handle c.args.size) _ refl c.truncate.ensures.0 c.truncate.ensures.1 c.self.invariant

pub returns-in_err-truncate : goal.returns-in_err-truncate
returns-in_err-truncate g c =
    let p = err_from_is_err_and c.from_residual.result c.from_residual.ensures.1 in
    record {
      attempt = rw (p.1, p.2)
          (rw (← c.self.view_is)
          (attempt_over _ c.args.handle (event.Truncate c.args.handle c.args.size) _ _ refl c.in_err-truncate.ensures.0
          c.in_err-truncate.ensures.1 c.in_err-truncate.ensures.2 c.self.invariant.serving.sound
          c.self.invariant.serving.reached c.self.invariant.serving.orderly
          (truncate_settled _ _ c.args.handle c.args.size _ c.in_err-truncate.ensures.0.1.0)));
    }

pub invariant_of-self-in-Done : goal.invariant_of-self-in-Done
invariant_of-self-in-Done g c = service_kept _ _ _ _ _ (event.Truncate c.args.handle c.args.size) _ refl c.truncate.ensures.0 c.truncate.ensures.1 c.self.invariant

pub returns-in-Done : goal.returns-in-Done
returns-in-Done g c =
    let m = rw c.in-Done.is at c.in_ok-truncate.ensures in
    record {
      attempt = rw (← c.self.view_is)
          (attempt_over _ c.args.handle (event.Truncate c.args.handle c.args.size) _ _ refl m.0 m.1 m.2
          c.self.invariant.serving.sound c.self.invariant.serving.reached c.self.invariant.serving.orderly refl);
    }

pub invariant_of-self-in-Miss : goal.invariant_of-self-in-Miss
invariant_of-self-in-Miss g c = service_kept _ _ _ _ _ (event.Truncate c.args.handle c.args.size) _ refl c.truncate.ensures.0 c.truncate.ensures.1 c.self.invariant

pub returns-in_err-fill-in-Miss : goal.returns-in_err-fill-in-Miss
returns-in_err-fill-in-Miss g c =
    let s : SoloSeen = record { world = c.self.inside.world; errors = c.self.inside.recorder; attempts = 0 } in
    let t : SoloSeen = record { world = c.truncate.new.self; errors = c.self.inside.recorder; attempts = c.self.inside.attempts + 1 } in
    let missed = truncate_missed _ s _ c.self.invariant.serving t c.in_ok-truncate.ensures.1 c.args.handle c.args.size c.in_ok-truncate.field-0 c.in-Miss.page c.in_ok-truncate.ensures.0.1.0 c.in-Miss.is in
    let p = err_from_is_err_and c.from_residual-in_err-fill-in-Miss.result c.from_residual-in_err-fill-in-Miss.ensures.1 in
    record {
      attempt = rw (p.1, p.2)
          (rw (← c.self.view_is)
          (attempt_follows _ c.args.handle
          (event.Truncate c.args.handle c.args.size) _ _ refl c.in_ok-truncate.ensures.0 c.in_ok-truncate.ensures.1
          c.in_ok-truncate.ensures.2 c.self.invariant.serving.sound c.self.invariant.serving.reached
          c.self.invariant.serving.orderly _ _ _ refl
          (follows_refused _ _ _ _ _ _ (truncate_asks _ _ c.in-Miss.is) _ c.fill.ensures.helps c.fill.ensures.attempts
          (truncate_unsettled _ _ c.in-Miss.is)
          (inl (c.in-Miss.page, truncate_asks _ _ c.in-Miss.is, c.in_err-fill-in-Miss.ensures.refused)))
          (λ _ r is. cut_wants t c.fill.new.self c.args.handle c.args.size c.in-Miss.page c.fill.ensures.helps.serves missed)
          (λ _ is. absurd cc)));
    }

pub returns : goal.returns
returns g c =
    let s : SoloSeen = record { world = c.self.inside.world; errors = c.self.inside.recorder; attempts = 0 } in
    let t : SoloSeen = record { world = c.truncate.new.self; errors = c.self.inside.recorder; attempts = c.self.inside.attempts + 1 } in
    let missed = truncate_missed _ s _ c.self.invariant.serving t c.in_ok-truncate.ensures.1 c.args.handle c.args.size c.in_ok-truncate.field-0 c.in-Miss.page c.in_ok-truncate.ensures.0.1.0 c.in-Miss.is in
    record {
      attempt = rw (← c.self.view_is)
          (attempt_follows _ c.args.handle
          (event.Truncate c.args.handle c.args.size) _ _ refl c.in_ok-truncate.ensures.0 c.in_ok-truncate.ensures.1
          c.in_ok-truncate.ensures.2 c.self.invariant.serving.sound c.self.invariant.serving.reached
          c.self.invariant.serving.orderly _ _ _ refl
          (follows_again _ _ _ None _ _ (truncate_asks _ _ c.in-Miss.is) c.fill.ensures.helps c.fill.ensures.attempts (truncate_unsettled _ _ c.in-Miss.is))
          (λ _ r is. absurd cc)
          (λ _ _. cut_gains t c.fill.new.self c.args.handle c.args.size c.in-Miss.page c.fill.ensures.helps.serves missed
          c.in_ok-fill-in-Miss.ensures.gains));
    }

pub fill-requires : goal.fill-requires
fill-requires g c =
    let s : SoloSeen = record { world = c.self.inside.world; errors = c.self.inside.recorder; attempts = 0 } in
    let t : SoloSeen = record { world = c.truncate.new.self; errors = c.self.inside.recorder; attempts = c.self.inside.attempts + 1 } in
    record { missed = truncate_missed _ s _ c.self.invariant.serving t c.in_ok-truncate.ensures.1 c.args.handle c.args.size c.in_ok-truncate.field-0 c.in-Miss.page c.in_ok-truncate.ensures.0.1.0 c.in-Miss.is }
