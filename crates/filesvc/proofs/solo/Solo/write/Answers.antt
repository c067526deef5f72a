use Rattle.std.proofs.Common.{◌≡◌, ◌+◌, length, true, false, ap, rules, subst}
use Rattle.filesvc.specs.Seen.{HandleSeen}
use Rattle.machine.specs.declared.event.Reply.TheVariants as reply
use Rattle.world.specs.declared.step.Step.TheVariants as step
use Rattle.filesvc.specs.Made.{IsMadeOf}
use Rattle.filesvc.specs.Service.{Names}
use Rattle.std.proofs.lemmas.Result.{err_from_is_err_and}
use Rattle.filesvc.proofs.Attempts.{made_at_cursor, made_at_end, none_at_cursor, none_at_end}
use Rattle.filesvc.proofs.solo.Solo.write.Goals as goal

pub returns-in_err-count-clause-made : goal.returns-in_err-count-clause-made
returns-in_err-count-clause-made g c =
    let p = err_from_is_err_and c.from_residual.result c.from_residual.ensures.1 in
    let off : c.args.handle.now.append ≡ false = search rules in
    let made : Names c.args.self.now c.args.handle.now → IsMadeOf (step.Write (record { 0 = c.args.handle.now.number }) c.args.handle.now.cursor c.args.bytes.now) c.args.self.now (reply.Refused c.in_err-count.field-0.0) c.pwrite.new.self =
    subst (λ o. Names c.args.self.now c.args.handle.now → IsMadeOf (step.Write (record { 0 = c.args.handle.now.number }) o c.args.bytes.now) c.args.self.now (reply.Refused c.in_err-count.field-0.0) c.pwrite.new.self)
    (ap (λ (h : HandleSeen). h.cursor) c.handle.view_is) c.in_err-count.ensures.made in
    rw (p.1, p.2) (λ names. none_at_cursor c.args.self.now c.pwrite.new.self c.args.handle.now c.args.bytes.now
    c.in_err-count.field-0.0 off (made names))

pub returns-then-not-handle-clause-made : goal.returns-then-not-handle-clause-made
returns-then-not-handle-clause-made g c =
    let off : c.args.handle.now.append ≡ false = search rules in
    let made : Names c.args.self.now c.args.handle.now → IsMadeOf (step.Write (record { 0 = c.args.handle.now.number }) c.args.handle.now.cursor c.args.bytes.now) c.args.self.now (reply.Wrote c.in_ok-count.count (c.args.handle.now.cursor + length c.args.bytes.now)) c.pwrite.new.self =
    subst (λ o. Names c.args.self.now c.args.handle.now → IsMadeOf (step.Write (record { 0 = c.args.handle.now.number }) o c.args.bytes.now) c.args.self.now (reply.Wrote c.in_ok-count.count (o + length c.args.bytes.now)) c.pwrite.new.self)
    (ap (λ (h : HandleSeen). h.cursor) c.handle.view_is) c.in_ok-count.ensures.made in
    λ names. made_at_cursor c.args.self.now c.pwrite.new.self c.args.handle.now c.args.bytes.now c.in_ok-count.count off
    c.in_ok-count.ensures.count (made names)

pub returns-in_err-wrote-clause-made : goal.returns-in_err-wrote-clause-made
returns-in_err-wrote-clause-made g c =
    let p = err_from_is_err_and c.from_residual-in_err-wrote.result c.from_residual-in_err-wrote.ensures.1 in
    let on : c.args.handle.now.append ≡ true = search rules in
    rw (p.1, p.2) (λ names. none_at_end c.args.self.now c.append.new.self c.args.handle.now c.args.bytes.now
    c.in_err-wrote.field-0.0 on (c.in_err-wrote.ensures.made names))

pub returns-clause-made : goal.returns-clause-made
returns-clause-made g c =
    let on : c.args.handle.now.append ≡ true = search rules in
    λ names. made_at_end c.args.self.now c.append.new.self c.args.handle.now c.args.bytes.now c.in_ok-wrote.wrote on
    c.in_ok-wrote.ensures.wrote (c.in_ok-wrote.ensures.made names)
