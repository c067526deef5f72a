-- Why a close is refused, and what it leaves of the requests of jobs.
use Rattle.std.proofs.Common.{◌≡◌, ◌≢◌, ◌⊎◌, ℕ, zero, suc, Bool, true, false, cond, List, [], ◌∷◌, ◌++◌, ap, inl, inr, refl, sym, subst, ◌∙◌, arith}
use Rattle.std.specs.FinMap as map
use Rattle.std.specs.Cmp.{nat_cmp_total, unsigned_tied}
use Rattle.std.specs.Ordering.{eq_by_cmp, nat_cmp}
use Rattle.std.specs.Prelude.{All, Any, Option, Some, None}
use Rattle.std.proofs.lemmas.Bool.{cond-true, eq-eqb}
use Rattle.std.proofs.lemmas.List.{append-nil, append_assoc}
use Rattle.std.proofs.lemmas.List.Elements.{All-append, All-nil, All-weaker}
use Rattle.blockdev.specs.Jobs.{Task}
use Rattle.machine.specs.Changes.{ended, flush_failed, request_ended}
use Rattle.machine.specs.State.{Request, State}
use Rattle.machine.specs.Step.{EndReply, Step}
use Rattle.machine.specs.declared.event.End.{End}
use Rattle.machine.specs.declared.event.Event.TheVariants as event
use Rattle.machine.specs.declared.event.Outcome.{Outcome}
use Rattle.machine.specs.declared.event.Outcome.TheVariants as outcome
use Rattle.machine.specs.declared.event.Reply.{Reply}
use Rattle.machine.specs.declared.event.Reply.TheVariants as reply
use Rattle.machine.proofs.steps.Ends.{of_end}
use Rattle.pc_types.specs.Kinds.{is_flush}
use Rattle.pc_types.specs.declared.kind.Kind.{Kind}
use Rattle.pc_types.specs.declared.refusal.Refusal.TheVariants.{Stranger}
use Rattle.held.specs.declared.log.Slip.{Slip}
use Rattle.held.specs.Entered.{Made}
use Rattle.held.specs.Shown.{HeldSeen, SeatSeen}
use Rattle.shared.specs.Workers.{AllOver, IsEndReply, IsOver, popped_by}
use Rattle.shared.specs.declared.worker.Worker.{Worker}

-- its own seat is at home, so that only another's is not, or one is missing
pub not_by_its_own : {S : Type 0} (name_of : S → ℕ) (seats : List S) (missing : Type 0) (name called own : ℕ) → name ≡ called
    → own ≡ called → missing ⊎ Any (λ s. name_of s ≢ called) seats ⊎ (own ≢ called)
    → missing ⊎ Any (λ s. name_of s ≢ name) seats
not_by_its_own name_of seats missing name called own named home (inl m) = inl m
not_by_its_own name_of seats missing name called own named home (inr (inl any)) =
    inr (subst (λ n. Any (λ s. name_of s ≢ n) seats) (sym named) any)
not_by_its_own name_of seats missing name called own named home (inr (inr away)) = absurd (away home)

-- ---- ends take requests away

cond_same : (b : Bool) (s t : State) (requests : map.FinMap nat_cmp Request) → s.requests ≡ requests → t.requests ≡ requests
    → (cond b s t).requests ≡ requests
cond_same true s t requests p q = p
cond_same false s t requests p q = q

requests_after : (s : State) (t : ℕ) (x : Request) (call : Outcome) (r : Reply) → EndReply (Some x) call r
    → (request_ended s t (Some x) call r).requests ≡ map.remove s.requests t
requests_after s t x _ reply.Dropped h = refl
requests_after s t x (outcome.Fault c) (reply.Failed d) h =
    cond_same (is_flush x.kind) (flush_failed (ended s t) x c) (ended s t) (map.remove s.requests t) refl refl
requests_after s t x (outcome.Read b) reply.Filled h = refl
requests_after s t x outcome.Written reply.Written h = refl
requests_after s t x call r h = absurd h

gone : (m : map.FinMap nat_cmp Request) (t : ℕ) → map.get (map.remove m t) t ≡ None
gone m t =
    map.get-remove nat_cmp_total m t t
    ∙ cond-true (eq_by_cmp nat_cmp t t) None (map.get m t) (unsigned_tied t t ∙ eq-eqb t t refl)

left : (m : map.FinMap nat_cmp Request) (t u : ℕ) → map.get m u ≡ None → map.get (map.remove m t) u ≡ None
left m t u e = map.get-remove nat_cmp_total m t u ∙ pick (eq_by_cmp nat_cmp u t) (map.get m u) e
  where
    pick : (b : Bool) (o : Option Request) → o ≡ None → cond b None o ≡ None
    pick true o e = refl
    pick false o e = e

unrefused : (r : Reply) → IsEndReply r → r ≡ reply.Refused Stranger → ⊥
unrefused r ended e = subst IsEndReply e ended

pub over_made : (job : Task) (kind : Kind) (end : End) (r : Reply) (old new : HeldSeen) (before after : SeatSeen) (slip : Slip)
    → IsEndReply r → end.serial.0 ≡ job.serial → Made (event.End kind end) r old new before after slip
    → IsOver new.core.state job
over_made job kind end r old new before after slip ended serial m =
    elim (of_end old.core.state kind end r new.core.state m.step) [
      | inl a ↦ absurd (unrefused r ended a.1)
      | inr a ↦ ap (λ (s : State). map.get s.requests job.serial) a.is
          ∙ ap (λ (q : map.FinMap nat_cmp Request). map.get q job.serial)
          (requests_after old.core.state end.serial.0 a.x end.outcome r a.reply)
          ∙ subst (λ t. map.get (map.remove old.core.state.requests end.serial.0) t ≡ None) serial
          (gone old.core.state.requests end.serial.0)
    ]

-- and bring none back
over_step : (job : Task) (kind : Kind) (end : End) (r : Reply) (s new : State) → Step s (event.End kind end) r new → IsOver s job
    → IsOver new job
over_step job kind end r s new step over = elim (of_end s kind end r new step) [
  | inl a ↦ subst (λ (t : State). IsOver t job) (sym a.2) over
  | inr a ↦ ap (λ (t : State). map.get t.requests job.serial) a.is
      ∙ ap (λ (q : map.FinMap nat_cmp Request). map.get q job.serial)
      (requests_after s end.serial.0 a.x end.outcome r a.reply)
      ∙ left s.requests end.serial.0 job.serial over
]

pub others_made : (job : Task) (kind : Kind) (end : End) (r : Reply) (old new : HeldSeen) (before after : SeatSeen) (slip : Slip)
    → Made (event.End kind end) r old new before after slip → IsOver old.core.state job → IsOver new.core.state job
others_made job kind end r old new before after slip m over =
    over_step job kind end r old.core.state new.core.state m.step over

-- ---- all jobs that a worker took

pub none_taken : (w : Worker) (s : State) → AllOver w w s
none_taken w s = ([], sym (append-nil (popped_by w)), All-nil (IsOver s))

one_over : (s : State) (job : Task) → IsOver s job → All (IsOver s) (job ∷ [])
one_over s job over zero d less = over
one_over s job over (suc k) d less = absurd (omega arith)

pub one_more_over : (a b c : Worker) (job : Task) (s t : State) → AllOver a b s → popped_by c ≡ popped_by b ++ job ∷ []
    → ((other : Task) → IsOver s other → IsOver t other) → IsOver t job → AllOver a c t
one_more_over a b c job s t p popped others over = (
  p.0 ++ job ∷ [],
  popped ∙ ap (λ jobs. jobs ++ job ∷ []) p.1 ∙ append_assoc (popped_by a) p.0 (job ∷ []),
  All-append (IsOver t) p.0 (job ∷ []) (All-weaker (IsOver s) (IsOver t) others p.0 p.2) (one_over t job over),
)
