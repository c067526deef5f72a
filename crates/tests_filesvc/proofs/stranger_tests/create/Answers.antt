use Rattle.machine.specs.declared.event.Event.TheVariants as event
use Rattle.machine.proofs.steps.Steady.{steady}
use Rattle.cachecore.specs.Replies.{created}
use Rattle.tests_filesvc.proofs.stranger_tests.create.Goals as goal

pub returns : goal.returns
returns c = (steady c.args.solo.now.world.core event.Create (created c.create.result) c.create.new.self.world.core c.create.ensures.step).name
