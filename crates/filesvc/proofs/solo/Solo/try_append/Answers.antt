use Rattle.std.proofs.Common.{◌≡◌, ◌+◌, true, refl, rules, ap, subst, ◌∙◌}
use Rattle.std.specs.Result.{result_unwrap_or}
use Rattle.cachecore.specs.Replies.{wrote}
use Rattle.machine.specs.declared.event.Event.TheVariants as event
use Rattle.machine.specs.declared.event.Reply.{Reply}
use Rattle.machine.specs.declared.event.Reply.TheVariants as reply
use Rattle.machine.specs.State.{file_at, handle_file, is_open}
use Rattle.world.specs.declared.step.Step.TheVariants as step
use Rattle.world.specs.Stepping.{IsMade}
use Rattle.filesvc.proofs.Attempts.{attempt_follows, attempt_over, follows_appended, service_kept}
use Rattle.filesvc.proofs.CallSteps.{appended_all}
use Rattle.filesvc.specs.Seen.{SoloSeen}
use Rattle.filesvc.proofs.Gains.{append_gains, append_stopped, append_wants}
use Rattle.filesvc.proofs.Sizes.{sized_is}
use Rattle.filesvc.proofs.solo.Solo.try_append.Goals as goal

pub invariant_of-self : goal.invariant_of-self
invariant_of-self g c = service_kept _ _ _ _ _ (event.Append c.args.handle c.args.bytes.now) _ refl c.append-answer.ensures.0 c.append-answer.ensures.1 c.self.invariant

pub invariant_of-self-2 : goal.invariant_of-self-2
invariant_of-self-2 g c = service_kept _ _ _ _ _ (event.Append c.args.handle c.args.bytes.now) _ refl c.append-answer.ensures.0 c.append-answer.ensures.1 c.self.invariant

pub returns-in-Ok-Wrote-clause-attempt : goal.returns-in-Ok-Wrote-clause-attempt
returns-in-Ok-Wrote-clause-attempt g c =
    let got : Reply = reply.Wrote c.in-Ok-Wrote.count c.in-Ok-Wrote.end in
    let is : wrote c.append-answer.result ≡ got = search rules in
    let m = subst (λ r. IsMade c.self.inside.world (step.Append c.args.handle c.args.bytes.now) r c.append-answer.new.self) is c.append-answer.ensures in
    rw (← c.self.view_is)
    (attempt_over _ c.args.handle (event.Append c.args.handle c.args.bytes.now) _ _ refl m.0 m.1 m.2
    c.self.invariant.serving.sound c.self.invariant.serving.reached c.self.invariant.serving.orderly refl)

pub returns-in-Ok-Wrote-clause-wrote : goal.returns-in-Ok-Wrote-clause-wrote
returns-in-Ok-Wrote-clause-wrote g c =
    let got : Reply = reply.Wrote c.in-Ok-Wrote.count c.in-Ok-Wrote.end in
    let is : wrote c.append-answer.result ≡ got = search rules in
    let m = subst (λ r. IsMade c.self.inside.world (step.Append c.args.handle c.args.bytes.now) r c.append-answer.new.self) is c.append-answer.ensures in
    rw (← c.self.view_is) (appended_all _ _ c.args.handle c.args.bytes.now (record { count = c.in-Ok-Wrote.count; end = c.in-Ok-Wrote.end }) m.0.1.0)

pub returns-clause-attempt : goal.returns-clause-attempt
returns-clause-attempt g c =
    let s : SoloSeen = record { world = c.self.inside.world; errors = c.self.inside.recorder; attempts = 0 } in
    let t : SoloSeen = record { world = c.append-answer.new.self; errors = c.self.inside.recorder; attempts = c.self.inside.attempts + 1 } in
    let at : is_open t.world.core c.args.handle.0 ≡ true → c.unwrap_or-offset.result ≡ (file_at t.world.core (handle_file t.world.core c.args.handle.0)).size = λ o. c.unwrap_or-offset.ensures ∙ ap (λ r. result_unwrap_or r 0) (sized_is t.world.core t.world.core c.args.handle c.size.result c.size.ensures.0.1.0 o) in
    rw (← c.self.view_is)
    (attempt_follows _ c.args.handle
    (event.Append c.args.handle c.args.bytes.now) _ _ refl c.append-answer.ensures.0 c.append-answer.ensures.1
    c.append-answer.ensures.2 c.self.invariant.serving.sound c.self.invariant.serving.reached
    c.self.invariant.serving.orderly _ _ _ refl c.after_write.ensures.follows
    (λ u r is. append_wants s t c.after_write.new.self c.args.handle c.unwrap_or-offset.result c.args.bytes.now _
    c.append-answer.ensures.0.1.0 at u c.after_write.ensures.follows.helps.serves)
    (λ u is. append_gains s t c.after_write.new.self c.args.handle c.unwrap_or-offset.result c.args.bytes.now _
    c.append-answer.ensures.0.1.0 at u c.after_write.ensures.follows.helps.serves (c.after_write.ensures.gains is)))

pub returns-clause-wrote : goal.returns-clause-wrote
returns-clause-wrote g c = rw (← c.self.view_is) (follows_appended _ c.args.handle _ _ _ _ _ _ _ c.after_write.ensures.follows c.append-answer.ensures.0.1.0)

pub after_write-requires : goal.after_write-requires
after_write-requires g c =
    let s : SoloSeen = record { world = c.self.inside.world; errors = c.self.inside.recorder; attempts = 0 } in
    let t : SoloSeen = record { world = c.append-answer.new.self; errors = c.self.inside.recorder; attempts = c.self.inside.attempts + 1 } in
    append_stopped _ s _ c.self.invariant.serving t c.append-answer.ensures.1 c.args.handle c.unwrap_or-offset.result c.args.bytes.now _ (λ o. c.unwrap_or-offset.ensures ∙ ap (λ r. result_unwrap_or r 0) (sized_is t.world.core t.world.core c.args.handle c.size.result c.size.ensures.0.1.0 o)) c.append-answer.ensures.0.1.0
