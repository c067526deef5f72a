use Rattle.std.proofs.Common.{refl, ◌∙◌}
use Rattle.machine.specs.declared.event.Event.TheVariants as event
use Rattle.machine.proofs.steps.Steady.{steady}
use Rattle.cachecore.specs.Replies.{created}
use Rattle.torture.proofs.desk.create_all.Goals as goal

pub returns-in_err-create : goal.returns-in_err-create
returns-in_err-create g c =
    (steady c.loop.solo.world.core event.Create (created c.create.result) c.create.new.self.world.core c.create.ensures.step).name ∙ c.loop.invariant

pub loop-preserved : goal.loop-preserved
loop-preserved g c =
    (steady c.loop.solo.world.core event.Create (created c.create.result) c.create.new.self.world.core c.create.ensures.step).name ∙ c.loop.invariant

pub returns : goal.returns
returns g c = c.loop.invariant
