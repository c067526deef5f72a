use Rattle.std.proofs.Common.{◌<◌, Some, None, refl, rules, subst, sym}
use Rattle.std.proofs.lemmas.Result.{err_from_is_err_and}
use Rattle.machine.specs.declared.event.Event.TheVariants as event
use Rattle.machine.specs.declared.event.Reply.TheVariants as reply
use Rattle.machine.specs.State.{file_at, handle_file}
use Rattle.filesvc.specs.Attempts.{Attempt, WroteAll, append_reply}
use Rattle.filesvc.specs.Service.{LengthsAfter, Names}
use Rattle.filesvc.proofs.Attempts.{length_before, try_again, try_first, try_over, try_turns}
use Rattle.cachecore.proofs.StepLemmas.{err_is}
use Rattle.filesvc.proofs.Laws.{keeps_trans}
use Rattle.filesvc.proofs.solo.Solo.append.Goals as goal

pub attempts-init : goal.attempts-init
attempts-init g c = rw (← c.self.view_is) (try_first _ _)

pub returns-in_err-wrote-clause-keeps : goal.returns-in_err-wrote-clause-keeps
returns-in_err-wrote-clause-keeps g c = keeps_trans _ _ _ c.attempts.invariant.serves.keeps c.try_append.ensures.attempt.keeps

pub returns-in_err-wrote-clause-first : goal.returns-in_err-wrote-clause-first
returns-in_err-wrote-clause-first g c =
    let p = err_from_is_err_and c.from_residual.result c.from_residual.ensures.1 in
    let a : Attempt c.attempts.self (event.Append (record { 0 = c.args.handle.now.number }) c.args.bytes.now)
    (Some (reply.Refused c.in_err-wrote.field-0.0)) c.try_append.new.self =
    rw (← c.handle.view_is) c.in_err-wrote.ensures.attempt in
    rw (p.1, p.2) (try_over _ _ _ c.attempts.invariant c.args.handle.now _ _ a refl).first

pub returns-in_err-wrote-clause-refused : goal.returns-in_err-wrote-clause-refused
returns-in_err-wrote-clause-refused g c =
    let p = err_from_is_err_and c.from_residual.result c.from_residual.ensures.1 in
    let a : Attempt c.attempts.self (event.Append (record { 0 = c.args.handle.now.number }) c.args.bytes.now)
    (Some (reply.Refused c.in_err-wrote.field-0.0)) c.try_append.new.self =
    rw (← c.handle.view_is) c.in_err-wrote.ensures.attempt in
    rw (p.1, p.2) (λ _. (try_over _ _ _ c.attempts.invariant c.args.handle.now _ _ a refl).refused _ refl)

pub returns-in_err-wrote-clause-made : goal.returns-in_err-wrote-clause-made
returns-in_err-wrote-clause-made g c =
    let p = err_from_is_err_and c.from_residual.result c.from_residual.ensures.1 in
    let a : Attempt c.attempts.self (event.Append (record { 0 = c.args.handle.now.number }) c.args.bytes.now)
    (Some (reply.Refused c.in_err-wrote.field-0.0)) c.try_append.new.self =
    rw (← c.handle.view_is) c.in_err-wrote.ensures.attempt in
    rw (p.1, p.2) (λ _. (try_over _ _ _ c.attempts.invariant c.args.handle.now _ _ a refl).made)

pub returns-in-Some-clause-wrote : goal.returns-in-Some-clause-wrote
returns-in-Some-clause-wrote g c =
    let names : Names c.args.self.now c.args.handle.now = search rules in
    let w : WroteAll (file_at c.attempts.self.world.core (handle_file c.attempts.self.world.core c.args.handle.now.number)).size c.args.bytes.now c.in-Some.wrote = rw (← c.handle.view_is) (rw c.in-Some.is at c.in_ok-wrote.ensures.wrote) in
    subst (λ n. WroteAll n c.args.bytes.now c.in-Some.wrote)
    (length_before c.args.self.now c.attempts.self c.args.handle.now c.attempts.invariant.serves (c.requires.came names)) w

pub returns-in-Some-clause-files : goal.returns-in-Some-clause-files
returns-in-Some-clause-files g c =
    let a : Attempt c.attempts.self (event.Append (record { 0 = c.args.handle.now.number }) c.args.bytes.now)
    (Some (reply.Wrote c.in-Some.wrote.count c.in-Some.wrote.end)) c.try_append.new.self =
    rw (← c.handle.view_is) (rw c.in-Some.is at c.in_ok-wrote.ensures.attempt) in
    (try_over _ _ _ c.attempts.invariant c.args.handle.now _ _ a refl).files

pub returns-in-Some-clause-made : goal.returns-in-Some-clause-made
returns-in-Some-clause-made g c =
    let a : Attempt c.attempts.self (event.Append (record { 0 = c.args.handle.now.number }) c.args.bytes.now)
    (Some (reply.Wrote c.in-Some.wrote.count c.in-Some.wrote.end)) c.try_append.new.self =
    rw (← c.handle.view_is) (rw c.in-Some.is at c.in_ok-wrote.ensures.attempt) in
    λ _. (try_over _ _ _ c.attempts.invariant c.args.handle.now _ _ a refl).made

pub returns-in-Some-clause-keeps : goal.returns-in-Some-clause-keeps
returns-in-Some-clause-keeps g c = keeps_trans _ _ _ c.attempts.invariant.serves.keeps c.try_append.ensures.attempt.keeps

pub returns-in-Some-clause-first : goal.returns-in-Some-clause-first
returns-in-Some-clause-first g c =
    let a : Attempt c.attempts.self (event.Append (record { 0 = c.args.handle.now.number }) c.args.bytes.now)
    (Some (reply.Wrote c.in-Some.wrote.count c.in-Some.wrote.end)) c.try_append.new.self =
    rw (← c.handle.view_is) (rw c.in-Some.is at c.in_ok-wrote.ensures.attempt) in
    (try_over _ _ _ c.attempts.invariant c.args.handle.now _ _ a refl).first

pub attempts-preserved : goal.attempts-preserved
attempts-preserved g c =
    let a : Attempt c.attempts.self (event.Append (record { 0 = c.args.handle.now.number }) c.args.bytes.now) None c.try_append.new.self = rw (← c.handle.view_is) (rw c.in_default.is at c.in_ok-wrote.ensures.attempt) in
    try_again _ _ _ c.attempts.invariant _ (rw (← c.self-in-attempts.view_is) c.attempts-test.true) a

pub returns-in_err-wrote-clause-lengths : goal.returns-in_err-wrote-clause-lengths
returns-in_err-wrote-clause-lengths g c =
    let a : Attempt c.attempts.self (event.Append (record { 0 = c.args.handle.now.number }) c.args.bytes.now)
    (Some (reply.Refused c.in_err-wrote.field-0.0)) c.try_append.new.self =
    rw (← c.handle.view_is) c.in_err-wrote.ensures.attempt in
    subst (λ r. LengthsAfter c.args.self.now (event.Append (record { 0 = c.args.handle.now.number }) c.args.bytes.now)
    (append_reply r) c.try_append.new.self)
    (sym (err_is c.from_residual.result c.in_err-wrote.field-0.0 c.from_residual.ensures.1))
    (try_over _ _ _ c.attempts.invariant c.args.handle.now _ _ a refl).lengths

pub returns-in-Some-clause-lengths : goal.returns-in-Some-clause-lengths
returns-in-Some-clause-lengths g c =
    let a : Attempt c.attempts.self (event.Append (record { 0 = c.args.handle.now.number }) c.args.bytes.now)
    (Some (reply.Wrote c.in-Some.wrote.count c.in-Some.wrote.end)) c.try_append.new.self =
    rw (← c.handle.view_is) (rw c.in-Some.is at c.in_ok-wrote.ensures.attempt) in
    (try_over _ _ _ c.attempts.invariant c.args.handle.now _ _ a refl).lengths

pub returns-clause-made : goal.returns-clause-made
returns-clause-made g c =
    let none : c.attempts.self.attempts < 256 → ⊥ = search rules in
    λ _. (try_turns _ _ _ c.attempts.invariant c.args.handle.now refl none).made
