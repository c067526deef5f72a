-- Requests in flight go on.
use Rattle.std.proofs.Common.{◌≡◌, ℕ, true, false, refl, sym, ◌∙◌, Option, Some, None, is_some}
use Rattle.std.specs.FinMap as finmap
use Rattle.machine.specs.declared.event.Event.TheVariants as event
use Rattle.machine.specs.declared.event.Outcome.{Outcome}
use Rattle.machine.specs.declared.event.Reply.{Reply}
use Rattle.machine.specs.State.{Request}
use Rattle.machine.proofs.steps.Stuck.{no_event_is_stuck}
use Rattle.runs.specs.Progress.{RequestsGoOn}
use Rattle.runs.specs.Runs.{world_at}
use Rattle.runs.specs.World.{World, Calls, Ends}
use Rattle.runs.proofs.moments.Moments.{coupled_at}
use Rattle.runs.proofs.events.Tables.{in_flight}

call_on : (w : World) (t : ℕ) (q : Option Request) (o : Option Outcome) → is_some q ≡ true → is_some o ≡ false
    → (new : World) × Calls w t q o None true new
call_on w t None o e k = absurd cc
call_on w t (Some x) None e k = (_, refl)
call_on w t (Some x) (Some o) e k = absurd cc

end_on : (w : World) (t : ℕ) (q : Option Request) (o : Option Outcome) → is_some q ≡ true → is_some o ≡ true
    → (r : Reply) × (new : World) × Ends w t q o r new
end_on w t None o e k = absurd cc
end_on w t (Some x) None e k = absurd cc
end_on w t (Some x) (Some o) e k =
    let a = no_event_is_stuck w.core
    (event.End x.kind (record { cache = w.core.name; kind = x.kind; serial = record { 0 = t }; block = record { 0 = x.block }; outcome = o })) in (
      a.0,
      record w { core = a.1; outcomes = finmap.remove w.outcomes t; writing = finmap.remove w.writing t },
      (a.3, refl),
    )

pub requests_go_on : RequestsGoOn
requests_go_on = record {
  call = λ w run first r k t e n. call_on (world_at w run k) t (finmap.get (world_at w run k).core.requests t)
      (finmap.get (world_at w run k).outcomes t) e n;
  end = λ w run first r k t e. (let v = world_at w run k in
      end_on v t (finmap.get v.core.requests t) (finmap.get v.outcomes t)
      (sym (in_flight v.core.requests v.writing t) ∙ (coupled_at w run first r k).good.outcomes t e) e);
}
