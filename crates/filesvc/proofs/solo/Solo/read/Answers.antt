use Rattle.std.proofs.Common.{length, take, ap, subst}
use Rattle.std.proofs.lemmas.Result.{err_from_is_err_and}
use Rattle.machine.specs.declared.event.Event.TheVariants as event
use Rattle.machine.specs.declared.event.Reply.TheVariants as reply
use Rattle.world.specs.declared.step.Step.TheVariants as step
use Rattle.filesvc.specs.Made.{IsMadeOf}
use Rattle.filesvc.specs.Seen.{HandleSeen}
use Rattle.filesvc.specs.Service.{IsRefusal, Names}
use Rattle.filesvc.proofs.solo.Solo.read.Goals as goal

pub returns-in_err-count-clause-refused : goal.returns-in_err-count-clause-refused
returns-in_err-count-clause-refused g c =
    let p = err_from_is_err_and c.from_residual.result c.from_residual.ensures.1 in
    rw (p.1, p.2) (subst (λ o. Names c.args.self.now c.args.handle.now
    → IsRefusal c.args.self.now (event.Read (record { 0 = c.args.handle.now.number }) o (length c.args.out.now)) c.in_err-count.field-0.0 c.pread.new.self)
    (ap (λ (h : HandleSeen). h.cursor) c.handle.view_is) c.in_err-count.ensures.refused)

pub returns-in_err-count-clause-made : goal.returns-in_err-count-clause-made
returns-in_err-count-clause-made g c =
    let p = err_from_is_err_and c.from_residual.result c.from_residual.ensures.1 in
    rw (p.1, p.2) (subst (λ o. Names c.args.self.now c.args.handle.now
    → IsMadeOf (step.Read (record { 0 = c.args.handle.now.number }) o (length c.args.out.now)) c.args.self.now (reply.Refused c.in_err-count.field-0.0) c.pread.new.self)
    (ap (λ (h : HandleSeen). h.cursor) c.handle.view_is) c.in_err-count.ensures.made)

pub returns-clause-made : goal.returns-clause-made
returns-clause-made g c = subst (λ o. Names c.args.self.now c.args.handle.now
    → IsMadeOf (step.Read (record { 0 = c.args.handle.now.number }) o (length c.args.out.now)) c.args.self.now (reply.Bytes (take c.in_ok-count.count c.pread.new.out)) c.pread.new.self)
    (ap (λ (h : HandleSeen). h.cursor) c.handle.view_is) c.in_ok-count.ensures.made
