use Rattle.std.proofs.Common.{◌≡◌, true, refl, ap, ◌∙◌}
use Rattle.std.specs.Prelude.{Err, is_some}
use Rattle.machine.specs.declared.event.Event.TheVariants as event
use Rattle.filesvc.proofs.Acted.{files_acted, service_acted}
use Rattle.machine.specs.State.{is_open}
use Rattle.filesvc.specs.Seen.{HandleSeen, SoloSeen}
use Rattle.filesvc.proofs.Coming.{close_ok, closed_quiet}
use Rattle.filesvc.proofs.solo.Solo.close.Goals as goal

pub invariant_of-self-in-Ok : goal.invariant_of-self-in-Ok
invariant_of-self-in-Ok g c = rw c.retire.ensures.same (service_acted _ _ _ _ _ c.self.invariant (event.Close c.handle.inside.number) _ c.close.ensures.0 c.close.ensures.1 refl (closed_quiet c.close.result))

pub invariant_of-self-in-Err : goal.invariant_of-self-in-Err
invariant_of-self-in-Err g c = service_acted _ _ _ _ _ c.self.invariant (event.Close c.handle.inside.number) _ c.close.ensures.0 c.close.ensures.1 refl (closed_quiet c.close.result)

pub returns-in-Ok-clause-files : goal.returns-in-Ok-clause-files
returns-in-Ok-clause-files g c = λ _. rw (← c.self.view_is, ← c.handle.view_is) (files_acted _ c.self.inside.world c.close.new.self _ _ c.self.invariant (event.Close c.handle.inside.number) _ c.in-Ok.ensures.0 c.in-Ok.ensures.1)

pub returns-in-Err-clause-answers : goal.returns-in-Err-clause-answers
returns-in-Err-clause-answers g c = λ names.
    let came = c.requires.came names in
    let opened : is_open c.self.inside.world.core c.handle.inside.number.0 ≡ true = ap (λ (s : SoloSeen). is_open s.world.core c.handle.inside.number.0) c.self.view_is ∙ ap (λ (h : HandleSeen). is_open c.args.self.now.world.core h.number) c.handle.view_is ∙ ap is_some came.number in
    close_ok c.self.inside.world.core c.close.new.self.core c.handle.inside.number (Err c.in-Err.refusal) opened c.self.invariant.syncs c.in-Err.ensures.0.1.0
