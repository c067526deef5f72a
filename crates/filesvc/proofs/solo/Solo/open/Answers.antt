use Rattle.std.proofs.Common.{refl}
use Rattle.machine.specs.declared.event.Event.TheVariants as event
use Rattle.filesvc.proofs.Acted.{files_acted, service_acted}
use Rattle.filesvc.proofs.Coming.{opened_quiet}
use Rattle.filesvc.proofs.solo.Solo.open.Goals as goal

pub invariant_of-self-in-Ok : goal.invariant_of-self-in-Ok
invariant_of-self-in-Ok g c = rw c.pass_remembered.ensures.same (service_acted _ _ _ _ _ c.self.invariant (event.Open c.args.file) _ c.open.ensures.0 c.open.ensures.1 refl (opened_quiet c.open.result))

pub invariant_of-self-in-Err : goal.invariant_of-self-in-Err
invariant_of-self-in-Err g c = rw (c.retire.ensures.same, c.pass_remembered.ensures.same) (service_acted _ _ _ _ _ c.self.invariant (event.Open c.args.file) _ c.open.ensures.0 c.open.ensures.1 refl (opened_quiet c.open.result))

pub returns-in-Ok-clause-files : goal.returns-in-Ok-clause-files
returns-in-Ok-clause-files g c = rw (← c.self.view_is) (files_acted _ c.self.inside.world c.open.new.self _ _ c.self.invariant (event.Open c.args.file) _ c.in-Ok.ensures.0 c.in-Ok.ensures.1)
