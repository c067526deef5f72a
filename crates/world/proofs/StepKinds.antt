-- What a step comes to, whichever it is: it is made, or nothing is, or it is a device call.
use Rattle.std.proofs.Common.{◌≡◌, Bool, true, false, ◌⊎◌, refl, ap, inl, inr, Option, Some, None, IfSome}
use Rattle.std.specs.FinMap as finmap
use Rattle.pc_types.specs.declared.ids.Serial.{Serial}
use Rattle.pc_types.specs.declared.refusal.Refusal.TheVariants.{Memory, Stranger}
use Rattle.machine.specs.declared.event.Outcome.{Outcome}
use Rattle.machine.specs.declared.event.Reply.{Reply}
use Rattle.machine.specs.declared.event.Reply.TheVariants as reply
use Rattle.machine.specs.State.{Request}
use Rattle.world.specs.declared.step.Step.{Step}
use Rattle.world.specs.declared.step.Step.TheVariants as step
use Rattle.world.specs.Stepping.{WorldSeen, CallReply, EndReply, IsCalled, IsMade, MovesByCall, Steps}

-- whether the reply tells that the step was made. What is refused memory changes nothing, made or not
abbrev pub is_made : Step → Reply → Bool
is_made (step.Read h o n) (reply.Refused Memory) = false
is_made (step.FillBegin h p) (reply.Refused Memory) = false
is_made (step.FlushBegin f) (reply.Refused Memory) = false
is_made (step.SyncStep n) (reply.Refused Memory) = false
is_made (step.Call t) (reply.Refused Stranger) = false
is_made (step.End t) (reply.Refused Stranger) = false
is_made s r = true

-- the step is the device call of a request, and is made
pub record IsCall (s : Step) (r : Reply) (old new : WorldSeen) : Type 0 where
  pub serial : Serial
  pub is : s ≡ step.Call serial
  pub done : r ≡ reply.Done
  pub called : IsCalled old serial.0 new
  pub moves : IfSome old.device.contents (λ _. MovesByCall old serial.0 new)

abbrev pub ComesTo : Step → Reply → WorldSeen → WorldSeen → Type 0
ComesTo s r old new = IsMade old s r new ⊎ (((new ≡ old) × (is_made s r ≡ false)) ⊎ IsCall s r old new)

call_comes : (t : Serial) (r : Reply) (old new : WorldSeen) (q : Option Request) (o : Option Outcome)
    → CallReply old t.0 q o r new → ComesTo (step.Call t) r old new
call_comes t r old new (Some x) None h =
    inr (inr (record { serial = t; is = refl; done = h.0; called = h.1; moves = h.2 }))
call_comes t r old new (Some x) (Some o) h = inr (inl (h.1, ap (is_made (step.Call t)) h.0))
call_comes t r old new None o h = inr (inl (h.1, ap (is_made (step.Call t)) h.0))

end_comes : (t : Serial) (r : Reply) (old new : WorldSeen) (o : Option Outcome) → EndReply old (step.End t) o r new
    → ComesTo (step.End t) r old new
end_comes t r old new (Some o) h = inl h.0
end_comes t r old new None h = inr (inl (h.1, ap (is_made (step.End t)) h.0))

pub comes_to : (s : Step) (r : Reply) (old new : WorldSeen) → Steps old s r new → ComesTo s r old new
comes_to (step.Read h o n) r old new (inr m) = inr (inl (m.1, ap (is_made (step.Read h o n)) m.0))
comes_to (step.Read h o n) r old new (inl m) = inl m
comes_to (step.FillBegin h p) r old new (inr m) = inr (inl (m.1, ap (is_made (step.FillBegin h p)) m.0))
comes_to (step.FillBegin h p) r old new (inl m) = inl m
comes_to (step.FlushBegin f) r old new (inr m) = inr (inl (m.1, ap (is_made (step.FlushBegin f)) m.0))
comes_to (step.FlushBegin f) r old new (inl m) = inl m
comes_to (step.SyncStep n) r old new (inr m) = inr (inl (m.1, ap (is_made (step.SyncStep n)) m.0))
comes_to (step.SyncStep n) r old new (inl m) = inl m
comes_to (step.Call t) r old new m = call_comes t r old new (finmap.get old.core.requests t.0)
    (finmap.get old.outcomes t.0) m
comes_to (step.End t) r old new m = end_comes t r old new (finmap.get old.outcomes t.0) m
comes_to s r old new m = inl m
