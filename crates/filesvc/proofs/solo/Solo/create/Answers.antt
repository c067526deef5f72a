use Rattle.std.proofs.Common.{refl}
use Rattle.machine.specs.declared.event.Event.TheVariants as event
use Rattle.filesvc.proofs.Acted.{files_acted, service_acted}
use Rattle.filesvc.proofs.Coming.{created_quiet}
use Rattle.filesvc.proofs.solo.Solo.create.Goals as goal

pub invariant_of-self : goal.invariant_of-self
invariant_of-self g c = service_acted _ _ _ _ _ c.self.invariant event.Create _ c.create.ensures.0 c.create.ensures.1 refl (created_quiet c.create.result)

pub returns-clause-files : goal.returns-clause-files
returns-clause-files g c = rw (← c.self.view_is) (files_acted _ c.self.inside.world c.create.new.self _ _ c.self.invariant event.Create _ c.create.ensures.0 c.create.ensures.1)
