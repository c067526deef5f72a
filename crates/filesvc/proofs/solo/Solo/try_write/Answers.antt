use Rattle.std.proofs.Common.{◌+◌, refl}
use Rattle.machine.specs.declared.event.Event.TheVariants as event
use Rattle.filesvc.proofs.Attempts.{attempt_follows, follows_all, service_kept}
use Rattle.filesvc.specs.Seen.{SoloSeen}
use Rattle.filesvc.proofs.Gains.{write_stopped}
use Rattle.filesvc.proofs.solo.Solo.try_write.Goals as goal

pub invariant_of-self : goal.invariant_of-self
invariant_of-self g c = service_kept _ _ _ _ _ (event.Write c.args.handle c.args.offset c.args.bytes.now) _ refl c.write-answer.ensures.0 c.write-answer.ensures.1 c.self.invariant

pub returns-clause-attempt : goal.returns-clause-attempt
returns-clause-attempt g c =
    rw (← c.self.view_is)
    (attempt_follows _ c.args.handle (event.Write c.args.handle c.args.offset c.args.bytes.now) _ _ refl
    c.write-answer.ensures.0 c.write-answer.ensures.1 c.write-answer.ensures.2 c.self.invariant.serving.sound
    c.self.invariant.serving.reached c.self.invariant.serving.orderly _ _ _ refl c.after_write.ensures.follows
    (λ _ r is. refl) (λ _ is. c.after_write.ensures.gains is))

pub returns-clause-wrote : goal.returns-clause-wrote
returns-clause-wrote g c = follows_all _ c.args.handle _ _ _ _ _ _ _ _ c.after_write.ensures.follows c.write-answer.ensures.0.1.0

pub after_write-requires : goal.after_write-requires
after_write-requires g c =
    let s : SoloSeen = record { world = c.self.inside.world; errors = c.self.inside.recorder; attempts = 0 } in
    let t : SoloSeen = record { world = c.write-answer.new.self; errors = c.self.inside.recorder; attempts = c.self.inside.attempts + 1 } in
    write_stopped _ s _ c.self.invariant.serving t c.write-answer.ensures.1 c.args.handle c.args.offset c.args.bytes.now _ c.write-answer.ensures.0.1.0
