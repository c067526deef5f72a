use Rattle.std.proofs.Common.{◌+◌, Some, None, ap, length, refl, subst, sym, ◌∙◌}
use Rattle.std.proofs.lemmas.Result.{err_from_is_err_and}
use Rattle.machine.specs.declared.event.Event.TheVariants as event
use Rattle.machine.specs.declared.event.Reply.TheVariants as reply
use Rattle.filesvc.specs.Attempts.{Attempt, WroteAll}
use Rattle.world.specs.declared.step.Step.TheVariants as step
use Rattle.filesvc.specs.Made.{IsMadeOf}
use Rattle.filesvc.specs.Service.{IsSettledAtOnce, LengthsAfter, write_reply}
use Rattle.filesvc.proofs.Attempts.{try_again, try_first, try_over}
use Rattle.cachecore.proofs.StepLemmas.{err_is}
use Rattle.filesvc.proofs.Laws.{keeps_trans}
use Rattle.filesvc.proofs.solo.Solo.pwrite.Goals as goal

pub attempts-init : goal.attempts-init
attempts-init g c = rw (← c.self.view_is) (try_first _ _)

pub returns-in_err-wrote-clause-keeps : goal.returns-in_err-wrote-clause-keeps
returns-in_err-wrote-clause-keeps g c = keeps_trans _ _ _ c.attempts.invariant.serves.keeps c.try_write.ensures.attempt.keeps

pub returns-in_err-wrote-clause-first : goal.returns-in_err-wrote-clause-first
returns-in_err-wrote-clause-first g c =
    let p = err_from_is_err_and c.from_residual.result c.from_residual.ensures.1 in
    let a : Attempt c.attempts.self
    (event.Write (record { 0 = c.args.handle.now.number }) c.args.offset c.args.bytes.now)
    (Some (reply.Refused c.in_err-wrote.field-0.0)) c.try_write.new.self =
    rw (← c.handle.view_is) c.in_err-wrote.ensures.attempt in
    rw (p.1, p.2) (try_over _ _ _ c.attempts.invariant c.args.handle.now _ _ a refl).first

pub returns-in_err-wrote-clause-refused : goal.returns-in_err-wrote-clause-refused
returns-in_err-wrote-clause-refused g c =
    let p = err_from_is_err_and c.from_residual.result c.from_residual.ensures.1 in
    let a : Attempt c.attempts.self
    (event.Write (record { 0 = c.args.handle.now.number }) c.args.offset c.args.bytes.now)
    (Some (reply.Refused c.in_err-wrote.field-0.0)) c.try_write.new.self =
    rw (← c.handle.view_is) c.in_err-wrote.ensures.attempt in
    rw (p.1, p.2) (λ _. (try_over _ _ _ c.attempts.invariant c.args.handle.now _ _ a refl).refused _ refl)

pub returns-in_err-wrote-clause-made : goal.returns-in_err-wrote-clause-made
returns-in_err-wrote-clause-made g c =
    let p = err_from_is_err_and c.from_residual.result c.from_residual.ensures.1 in
    let a : Attempt c.attempts.self
    (event.Write (record { 0 = c.args.handle.now.number }) c.args.offset c.args.bytes.now)
    (Some (reply.Refused c.in_err-wrote.field-0.0)) c.try_write.new.self =
    rw (← c.handle.view_is) c.in_err-wrote.ensures.attempt in
    rw (p.1, p.2) (λ _. (try_over _ _ _ c.attempts.invariant c.args.handle.now _ _ a refl).made)

pub returns-in-Some-clause-files : goal.returns-in-Some-clause-files
returns-in-Some-clause-files g c =
    let a : Attempt c.attempts.self
    (event.Write (record { 0 = c.args.handle.now.number }) c.args.offset c.args.bytes.now)
    (Some (reply.Wrote c.in-Some.wrote.count c.in-Some.wrote.end)) c.try_write.new.self =
    rw (← c.handle.view_is) (rw c.in-Some.is at c.in_ok-wrote.ensures.attempt) in
    (try_over _ _ _ c.attempts.invariant c.args.handle.now _ _ a refl).files

pub returns-in-Some-clause-made : goal.returns-in-Some-clause-made
returns-in-Some-clause-made g c =
    let a : Attempt c.attempts.self
    (event.Write (record { 0 = c.args.handle.now.number }) c.args.offset c.args.bytes.now)
    (Some (reply.Wrote c.in-Some.wrote.count c.in-Some.wrote.end)) c.try_write.new.self =
    rw (← c.handle.view_is) (rw c.in-Some.is at c.in_ok-wrote.ensures.attempt) in
    let w : WroteAll c.args.offset c.args.bytes.now c.in-Some.wrote = rw c.in-Some.is at c.in_ok-wrote.ensures.wrote in
    λ _. subst (λ x. IsMadeOf (step.Write (record { 0 = c.args.handle.now.number }) c.args.offset c.args.bytes.now)
    c.args.self.now (reply.Wrote c.in-Some.wrote.count x) c.try_write.new.self)
    (w.ends ∙ ap (λ n. c.args.offset + n) w.count) (try_over _ _ _ c.attempts.invariant c.args.handle.now _ _ a refl).made

pub returns-in-Some-clause-keeps : goal.returns-in-Some-clause-keeps
returns-in-Some-clause-keeps g c = keeps_trans _ _ _ c.attempts.invariant.serves.keeps c.try_write.ensures.attempt.keeps

pub returns-in-Some-clause-first : goal.returns-in-Some-clause-first
returns-in-Some-clause-first g c =
    let a : Attempt c.attempts.self
    (event.Write (record { 0 = c.args.handle.now.number }) c.args.offset c.args.bytes.now)
    (Some (reply.Wrote c.in-Some.wrote.count c.in-Some.wrote.end)) c.try_write.new.self =
    rw (← c.handle.view_is) (rw c.in-Some.is at c.in_ok-wrote.ensures.attempt) in
    let w : WroteAll c.args.offset c.args.bytes.now c.in-Some.wrote = rw c.in-Some.is at c.in_ok-wrote.ensures.wrote in
    subst (λ x. IsSettledAtOnce c.args.self.now c.args.handle.now (event.Write (record { 0 = c.args.handle.now.number }) c.args.offset c.args.bytes.now) (reply.Wrote c.in-Some.wrote.count x) c.try_write.new.self) (w.ends ∙ ap (λ n. c.args.offset + n) w.count) (try_over _ _ _ c.attempts.invariant c.args.handle.now _ _ a refl).first

pub attempts-preserved : goal.attempts-preserved
attempts-preserved g c =
    let a : Attempt c.attempts.self (event.Write (record { 0 = c.args.handle.now.number }) c.args.offset c.args.bytes.now) None c.try_write.new.self = rw (← c.handle.view_is) (rw c.in_default.is at c.in_ok-wrote.ensures.attempt) in
    try_again _ _ _ c.attempts.invariant _ (rw (← c.self-in-attempts.view_is) c.attempts-test.true) a

pub returns-in_err-wrote-clause-lengths : goal.returns-in_err-wrote-clause-lengths
returns-in_err-wrote-clause-lengths g c =
    let a : Attempt c.attempts.self
    (event.Write (record { 0 = c.args.handle.now.number }) c.args.offset c.args.bytes.now)
    (Some (reply.Refused c.in_err-wrote.field-0.0)) c.try_write.new.self =
    rw (← c.handle.view_is) c.in_err-wrote.ensures.attempt in
    subst (λ r. LengthsAfter c.args.self.now
    (event.Write (record { 0 = c.args.handle.now.number }) c.args.offset c.args.bytes.now)
    (write_reply r (c.args.offset + length c.args.bytes.now)) c.try_write.new.self)
    (sym (err_is c.from_residual.result c.in_err-wrote.field-0.0 c.from_residual.ensures.1))
    (try_over _ _ _ c.attempts.invariant c.args.handle.now _ _ a refl).lengths

pub returns-in-Some-clause-lengths : goal.returns-in-Some-clause-lengths
returns-in-Some-clause-lengths g c =
    let a : Attempt c.attempts.self
    (event.Write (record { 0 = c.args.handle.now.number }) c.args.offset c.args.bytes.now)
    (Some (reply.Wrote c.in-Some.wrote.count c.in-Some.wrote.end)) c.try_write.new.self =
    rw (← c.handle.view_is) (rw c.in-Some.is at c.in_ok-wrote.ensures.attempt) in
    let w : WroteAll c.args.offset c.args.bytes.now c.in-Some.wrote = rw c.in-Some.is at c.in_ok-wrote.ensures.wrote in
    subst (λ x. LengthsAfter c.args.self.now
    (event.Write (record { 0 = c.args.handle.now.number }) c.args.offset c.args.bytes.now)
    (reply.Wrote c.in-Some.wrote.count x) c.try_write.new.self) (w.ends ∙ ap (λ n. c.args.offset + n) w.count)
    (try_over _ _ _ c.attempts.invariant c.args.handle.now _ _ a refl).lengths
