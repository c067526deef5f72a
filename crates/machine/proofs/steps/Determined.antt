-- A step's new state is settled by the old state, the event and its reply.
use Rattle.std.proofs.Common.{◌≡◌, sym, ◌∙◌, Option, Some, None}
use Rattle.machine.specs.declared.event.Event.{Event}
use Rattle.machine.specs.declared.event.Reply.{Reply}
use Rattle.machine.specs.State.{State}
use Rattle.machine.specs.Tests.{tests}
use Rattle.machine.specs.Step.{AnswersOr}
use Rattle.machine.specs.Laws.{StepsAreDetermined}

answers : (o : Option Reply) (s new other : State) (e : Event) (r : Reply) → AnswersOr o s e r new
    → AnswersOr o s e r other → new ≡ other
answers (Some x) s new other e r a b = a.1 ∙ sym b.1
answers None s new other e r a b = a.1 ∙ sym b.1

pub steps_are_determined : StepsAreDetermined
steps_are_determined s new other e r a b = answers (tests s e) s new other e r a b
