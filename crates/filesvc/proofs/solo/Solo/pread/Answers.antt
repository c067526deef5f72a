use Rattle.std.proofs.Common.{◌≡◌, ◌-◌, ◌<◌, ◌∙◌, ℕ, Some, None, ap, length, min, rules, take, refl}
use Rattle.std.proofs.lemmas.Result.{err_from_is_err_and}
use Rattle.machine.specs.declared.event.Event.TheVariants as event
use Rattle.machine.specs.declared.event.Reply.TheVariants as reply
use Rattle.filesvc.specs.Attempts.{Attempt}
use Rattle.filesvc.proofs.Attempts.{length_before, try_again, try_first, try_over, try_turns}
use Rattle.filesvc.specs.Service.{Names}
use Rattle.machine.specs.State.{handle_file}
use Rattle.machine.specs.Tests.{read_count}
use Rattle.filesvc.proofs.Laws.{serves_trans}
use Rattle.filesvc.proofs.solo.Solo.pread.Goals as goal

pub attempts-init : goal.attempts-init
attempts-init g c = record { tries = rw (← c.self.view_is) (try_first _ _); out = refl }

pub returns-in_err-count-clause-serves : goal.returns-in_err-count-clause-serves
returns-in_err-count-clause-serves g c = serves_trans _ _ _ c.attempts.invariant.tries.serves c.try_read.ensures.serves

pub returns-in_err-count-clause-first : goal.returns-in_err-count-clause-first
returns-in_err-count-clause-first g c =
    let p = err_from_is_err_and c.from_residual.result c.from_residual.ensures.1 in
    let a : Attempt c.attempts.self (event.Read (record { 0 = c.args.handle.now.number }) c.args.offset (length c.args.out.now)) (Some (reply.Refused c.in_err-count.field-0.0)) c.try_read.new.self = rw (← c.handle.view_is, ← c.attempts.invariant.out) c.in_err-count.ensures.attempt in
    rw (p.1, p.2) (try_over _ _ _ c.attempts.invariant.tries c.args.handle.now _ _ a refl).first

pub returns-in_err-count-clause-refused : goal.returns-in_err-count-clause-refused
returns-in_err-count-clause-refused g c =
    let p = err_from_is_err_and c.from_residual.result c.from_residual.ensures.1 in
    let a : Attempt c.attempts.self (event.Read (record { 0 = c.args.handle.now.number }) c.args.offset (length c.args.out.now)) (Some (reply.Refused c.in_err-count.field-0.0)) c.try_read.new.self = rw (← c.handle.view_is, ← c.attempts.invariant.out) c.in_err-count.ensures.attempt in
    rw (p.1, p.2) (λ _. (try_over _ _ _ c.attempts.invariant.tries c.args.handle.now _ _ a refl).refused _ refl)

pub returns-in_err-count-clause-made : goal.returns-in_err-count-clause-made
returns-in_err-count-clause-made g c =
    let p = err_from_is_err_and c.from_residual.result c.from_residual.ensures.1 in
    let a : Attempt c.attempts.self (event.Read (record { 0 = c.args.handle.now.number }) c.args.offset (length c.args.out.now)) (Some (reply.Refused c.in_err-count.field-0.0)) c.try_read.new.self = rw (← c.handle.view_is, ← c.attempts.invariant.out) c.in_err-count.ensures.attempt in
    rw (p.1, p.2) (λ _. (try_over _ _ _ c.attempts.invariant.tries c.args.handle.now _ _ a refl).made)

pub returns-in-Some-clause-first : goal.returns-in-Some-clause-first
returns-in-Some-clause-first g c =
    let a : Attempt c.attempts.self (event.Read (record { 0 = c.args.handle.now.number }) c.args.offset (length c.args.out.now)) (Some (reply.Bytes (take c.in-Some.count c.try_read.new.out))) c.try_read.new.self = rw (← c.handle.view_is, ← c.attempts.invariant.out) (rw c.in-Some.is at c.in_ok-count.ensures.attempt) in
    (try_over _ _ _ c.attempts.invariant.tries c.args.handle.now _ _ a refl).first

pub returns-in-Some-clause-made : goal.returns-in-Some-clause-made
returns-in-Some-clause-made g c =
    let a : Attempt c.attempts.self (event.Read (record { 0 = c.args.handle.now.number }) c.args.offset (length c.args.out.now)) (Some (reply.Bytes (take c.in-Some.count c.try_read.new.out))) c.try_read.new.self = rw (← c.handle.view_is, ← c.attempts.invariant.out) (rw c.in-Some.is at c.in_ok-count.ensures.attempt) in
    λ _. (try_over _ _ _ c.attempts.invariant.tries c.args.handle.now _ _ a refl).made

pub returns-in-Some-clause-serves : goal.returns-in-Some-clause-serves
returns-in-Some-clause-serves g c = serves_trans _ _ _ c.attempts.invariant.tries.serves c.try_read.ensures.serves

pub attempts-preserved : goal.attempts-preserved
attempts-preserved g c =
    let a : Attempt c.attempts.self (event.Read (record { 0 = c.args.handle.now.number }) c.args.offset (length c.args.out.now)) None c.try_read.new.self = rw (← c.handle.view_is, ← c.attempts.invariant.out) (rw c.in_default.is at c.in_ok-count.ensures.attempt) in
    let rest : c.try_read.new.out ≡ c.attempts.out = rw c.in_default.is at c.in_ok-count.ensures.rest in
    record { tries = try_again _ _ _ c.attempts.invariant.tries _ (rw (← c.self-in-attempts.view_is) c.attempts-test.true) a; out = rest ∙ c.attempts.invariant.out }

-- it does not run out of attempts
pub returns-clause-refused : goal.returns-clause-refused
returns-clause-refused g c =
    let none : c.attempts.self.attempts < 256 → ⊥ = search rules in
    λ _. (try_turns _ _ _ c.attempts.invariant.tries c.args.handle.now refl none).refused _ refl

pub returns-clause-made : goal.returns-clause-made
returns-clause-made g c =
    let none : c.attempts.self.attempts < 256 → ⊥ = search rules in
    λ _. (try_turns _ _ _ c.attempts.invariant.tries c.args.handle.now refl none).made

pub returns-in-Some-clause-all : goal.returns-in-Some-clause-all
returns-in-Some-clause-all g c =
    let names : Names c.args.self.now c.args.handle.now = search rules in
    let n : ℕ = length c.args.out.now in
    let k : c.in-Some.count ≡ read_count c.attempts.self.world.core
    (handle_file c.attempts.self.world.core c.args.handle.now.number) c.args.offset n =
    rw (← c.handle.view_is, ← c.attempts.invariant.out) (rw c.in-Some.is at c.in_ok-count.ensures.all) in
    k ∙ ap (λ size. min n (size - c.args.offset))
    (length_before c.args.self.now c.attempts.self c.args.handle.now c.attempts.invariant.tries.serves
    (c.requires.came names))
