-- A history that goes on by a step stays legal.
use Rattle.std.proofs.Common.{◌≡◌, ℕ, true, false, cond, eqb, List, [], ◌∷◌, ◌++◌, map, refl, ap, sym, subst, ◌∙◌, inl}
use Rattle.std.proofs.Common.{inr}
use Rattle.std.specs.Prelude.{◌&&◌, Option, Some, None}
use Rattle.std.specs.FinMap as finmap
use Rattle.pc_types.specs.Limits.{Sizes}
use Rattle.pc_types.specs.declared.kind.Kind.{Kind}
use Rattle.pc_types.specs.declared.kind.Kind.TheVariants.{Fill, Flush}
use Rattle.pc_types.specs.Kinds.{same_kind}
use Rattle.pc_types.specs.declared.refusal.Refusal.TheVariants.{Stranger}
use Rattle.machine.specs.declared.event.End.{End}
use Rattle.machine.specs.declared.event.Event.{Event}
use Rattle.machine.specs.declared.event.Event.TheVariants as event
use Rattle.machine.specs.declared.event.Outcome.{Outcome}
use Rattle.machine.specs.declared.event.Outcome.TheVariants as outcome
use Rattle.machine.specs.declared.event.Reply.{Reply}
use Rattle.machine.specs.declared.event.Reply.TheVariants as reply
use Rattle.machine.specs.Catalogs.{Catalog}
use Rattle.machine.specs.History.{Leads}
use Rattle.machine.specs.State.{State, Request}
use Rattle.machine.specs.Step.{Step, AnswersOr}
use Rattle.machine.specs.Tests.{tests, is_of, fits}
use Rattle.machine.proofs.steps.Cases.{answered}
use Rattle.machine.proofs.steps.Ends.{end_loud}
use Rattle.machine.proofs.steps.Steady.{steady}
use Rattle.trail.specs.declared.entry.Entry.{Entry}
use Rattle.trail.specs.Entries.{noted, entry_of, end_with, outcome_with}
use Rattle.trail.specs.History.{seatless, After}

pub leads_snoc : (from : State) (es : List Entry) (e : Entry) (mid to : State) → Leads from (map seatless es) mid
    → Step mid e.event e.reply to → Leads from (map seatless (es ++ e ∷ [])) to
leads_snoc from [] e mid to is s = (to, subst (λ x. Step x e.event e.reply to) is s, refl)
leads_snoc from (x ∷ es) e mid to r s = (r.0, r.1, leads_snoc r.0 es e mid to r.2 s)

-- ---- what a history leaves out of a refused end is of no matter to the machine

fits_still : (kind : Kind) (o : Outcome) → fits kind (outcome_with o []) ≡ fits kind o
fits_still Fill (outcome.Read b) = refl
fits_still Flush (outcome.Read b) = refl
fits_still kind (outcome.Fault c) = refl
fits_still kind outcome.Written = refl

still_of : (kind : Kind) (end : End) (o : Option Request) → is_of kind (end_with end []) o ≡ is_of kind end o
still_of kind end None = refl
still_of kind end (Some x) =
    ap (λ b. same_kind kind end.kind && same_kind kind x.kind && eqb end.block.0 x.block && b)
    (fits_still kind end.outcome)

still_tested : (s : State) (kind : Kind) (end : End)
    → tests s (event.End kind (end_with end [])) ≡ tests s (event.End kind end)
still_tested s kind end =
    ap (λ b. cond (eqb end.cache s.name && b) None (Some (reply.Refused Stranger)))
    (still_of kind end (finmap.get s.requests end.serial.0))

pub noted_step : (s : State) (e : Event) (r : Reply) (new : State) → Step s e r new → Step s (noted e r) r new
noted_step s (event.End kind end) (reply.Refused why) new h =
    let r : Reply = reply.Refused why in
    let kept : Event = event.End kind (end_with end []) in
    elim (answered (tests s (event.End kind end)) s (event.End kind end) r new h) [
      | inl a ↦ subst (λ o. AnswersOr o s kept r new) (sym (still_tested s kind end ∙ a.0)) (refl, a.1)
      | inr a ↦ absurd (let k : true ≡ false = end_loud (finmap.get s.requests end.serial.0) end.outcome r a.1 in cc)
    ]
noted_step s e r new h = h

-- ---- one more entry

pub after_step : (files : Catalog) (history : List Entry) (seat : ℕ) (s new : State) (e : Event) (r : Reply)
    → After files s.sizes s.name history s → Step s e r new
    → After files new.sizes new.name (history ++ entry_of seat e r ∷ []) new
after_step files history seat s new e r is step =
    let same = steady s e r new step in
    subst (λ (x : Sizes × ℕ). After files x.0 x.1 (history ++ entry_of seat e r ∷ []) new)
    (λ j. (sym same.sizes j, sym same.name j))
    (is.0, leads_snoc _ history (entry_of seat e r) s new is.1 (noted_step s e r new step))
