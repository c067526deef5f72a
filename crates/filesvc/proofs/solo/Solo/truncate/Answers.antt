use Rattle.std.proofs.Common.{Some, None, refl, subst, sym}
use Rattle.std.proofs.lemmas.Result.{err_from_is_err_and}
use Rattle.machine.specs.declared.event.Event.TheVariants as event
use Rattle.machine.specs.declared.event.Reply.TheVariants as reply
use Rattle.filesvc.specs.Attempts.{Attempt}
use Rattle.filesvc.proofs.Attempts.{try_again, try_first, try_over}
use Rattle.cachecore.proofs.StepLemmas.{err_is}
use Rattle.filesvc.specs.Service.{LengthsAfter, truncate_reply}
use Rattle.filesvc.proofs.Laws.{keeps_trans}
use Rattle.filesvc.proofs.solo.Solo.truncate.Goals as goal

pub attempts-init : goal.attempts-init
attempts-init g c = rw (← c.self.view_is) (try_first _ _)

pub returns-in_err-try_truncate-clause-keeps : goal.returns-in_err-try_truncate-clause-keeps
returns-in_err-try_truncate-clause-keeps g c = keeps_trans _ _ _ c.attempts.invariant.serves.keeps c.try_truncate.ensures.attempt.keeps

pub returns-in_err-try_truncate-clause-first : goal.returns-in_err-try_truncate-clause-first
returns-in_err-try_truncate-clause-first g c =
    let p = err_from_is_err_and c.from_residual.result c.from_residual.ensures.1 in
    let a : Attempt c.attempts.self (event.Truncate (record { 0 = c.args.handle.now.number }) c.args.size)
    (Some (reply.Refused c.in_err-try_truncate.field-0.0)) c.try_truncate.new.self =
    rw (← c.handle.view_is) c.in_err-try_truncate.ensures.attempt in
    rw (p.1, p.2) (try_over _ _ _ c.attempts.invariant c.args.handle.now _ _ a refl).first

pub returns-in_err-try_truncate-clause-refused : goal.returns-in_err-try_truncate-clause-refused
returns-in_err-try_truncate-clause-refused g c =
    let p = err_from_is_err_and c.from_residual.result c.from_residual.ensures.1 in
    let a : Attempt c.attempts.self (event.Truncate (record { 0 = c.args.handle.now.number }) c.args.size)
    (Some (reply.Refused c.in_err-try_truncate.field-0.0)) c.try_truncate.new.self =
    rw (← c.handle.view_is) c.in_err-try_truncate.ensures.attempt in
    rw (p.1, p.2) (λ _. (try_over _ _ _ c.attempts.invariant c.args.handle.now _ _ a refl).refused _ refl)

pub returns-in_err-try_truncate-clause-made : goal.returns-in_err-try_truncate-clause-made
returns-in_err-try_truncate-clause-made g c =
    let p = err_from_is_err_and c.from_residual.result c.from_residual.ensures.1 in
    let a : Attempt c.attempts.self (event.Truncate (record { 0 = c.args.handle.now.number }) c.args.size)
    (Some (reply.Refused c.in_err-try_truncate.field-0.0)) c.try_truncate.new.self =
    rw (← c.handle.view_is) c.in_err-try_truncate.ensures.attempt in
    rw (p.1, p.2) (λ _. (try_over _ _ _ c.attempts.invariant c.args.handle.now _ _ a refl).made)

pub returns-then-branch-clause-files : goal.returns-then-branch-clause-files
returns-then-branch-clause-files g c =
    let a : Attempt c.attempts.self (event.Truncate (record { 0 = c.args.handle.now.number }) c.args.size)
    (Some reply.Done) c.try_truncate.new.self =
    rw (← c.handle.view_is) (rw c.if-branch.true at c.in_ok-try_truncate.ensures.attempt) in
    (try_over _ _ _ c.attempts.invariant c.args.handle.now _ _ a refl).files

pub returns-then-branch-clause-made : goal.returns-then-branch-clause-made
returns-then-branch-clause-made g c =
    let a : Attempt c.attempts.self (event.Truncate (record { 0 = c.args.handle.now.number }) c.args.size)
    (Some reply.Done) c.try_truncate.new.self =
    rw (← c.handle.view_is) (rw c.if-branch.true at c.in_ok-try_truncate.ensures.attempt) in
    λ _. (try_over _ _ _ c.attempts.invariant c.args.handle.now _ _ a refl).made

pub returns-then-branch-clause-keeps : goal.returns-then-branch-clause-keeps
returns-then-branch-clause-keeps g c = keeps_trans _ _ _ c.attempts.invariant.serves.keeps c.try_truncate.ensures.attempt.keeps

pub attempts-preserved : goal.attempts-preserved
attempts-preserved g c =
    let a : Attempt c.attempts.self (event.Truncate (record { 0 = c.args.handle.now.number }) c.args.size) None c.try_truncate.new.self = rw (← c.handle.view_is) (rw c.if-branch.false at c.in_ok-try_truncate.ensures.attempt) in
    try_again _ _ _ c.attempts.invariant _ (rw (← c.self-in-attempts.view_is) c.attempts-test.true) a

pub returns-in_err-try_truncate-clause-lengths : goal.returns-in_err-try_truncate-clause-lengths
returns-in_err-try_truncate-clause-lengths g c =
    let a : Attempt c.attempts.self (event.Truncate (record { 0 = c.args.handle.now.number }) c.args.size)
    (Some (reply.Refused c.in_err-try_truncate.field-0.0)) c.try_truncate.new.self =
    rw (← c.handle.view_is) c.in_err-try_truncate.ensures.attempt in
    subst (λ r. LengthsAfter c.args.self.now (event.Truncate (record { 0 = c.args.handle.now.number }) c.args.size)
    (truncate_reply r) c.try_truncate.new.self)
    (sym (err_is c.from_residual.result c.in_err-try_truncate.field-0.0 c.from_residual.ensures.1))
    (try_over _ _ _ c.attempts.invariant c.args.handle.now _ _ a refl).lengths

pub returns-then-branch-clause-lengths : goal.returns-then-branch-clause-lengths
returns-then-branch-clause-lengths g c =
    let a : Attempt c.attempts.self (event.Truncate (record { 0 = c.args.handle.now.number }) c.args.size)
    (Some reply.Done) c.try_truncate.new.self =
    rw (← c.handle.view_is) (rw c.if-branch.true at c.in_ok-try_truncate.ensures.attempt) in
    (try_over _ _ _ c.attempts.invariant c.args.handle.now _ _ a refl).lengths
