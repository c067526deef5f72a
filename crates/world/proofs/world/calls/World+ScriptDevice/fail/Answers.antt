use Rattle.std.proofs.Common.{ap, subst, ◌∙◌}
use Rattle.machine.specs.declared.event.Reply.TheVariants as reply
use Rattle.cachecore.specs.Replies.{answered}
use Rattle.world.specs.declared.step.Step.TheVariants as step
use Rattle.world.specs.Stepping.{WorldSeen, Steps, failing}
use Rattle.world.specs.Flights.{seen_of}
use Rattle.world.proofs.CallReplies.{fail_made, uncalled}
use Rattle.world.proofs.world.calls.World+ScriptDevice.fail.Goals as goal

pub returns-then-not-is_asked : goal.returns-then-not-is_asked
returns-then-not-is_asked c = uncalled c.self.inside.core.state c.self.inside.jobs _ c.self.invariant.0
    c.args.serial.0 _ c.self.view_is c.if-not-is_asked.ensures

pub returns : goal.returns
returns c =
    fail_made c.self.inside.core.state c.self.inside.jobs _ c.self.invariant.0 c.args.serial.0 _ c.self.view_is
    c.args.code c.args.effect _ c.call.result c.if-not-is_asked.ensures
    (subst (λ (h : WorldSeen). Steps h (step.Call c.args.serial) (answered (λ _. reply.Done) c.call.result) c.call.new.self)
    (ap (seen_of c.self.inside.core.state c.self.inside.jobs) c.fail_next.ensures
    ∙ ap (λ h. failing h c.args.code c.args.effect) c.self.view_is) c.call.ensures)
