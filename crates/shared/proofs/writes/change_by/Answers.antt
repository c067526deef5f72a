use Rattle.std.proofs.Common.{subst, sym}
use Rattle.std.specs.Prelude.{Ok}
use Rattle.std.proofs.lemmas.Result.{IfOk-weaker}
use Rattle.cachecore.specs.Replies.{wrote}
use Rattle.held.specs.Entered.{Made}
use Rattle.machine.specs.declared.event.Event.TheVariants as event
use Rattle.shared.specs.Changes.{IsWholeIn}
use Rattle.shared.specs.declared.writes.Change.{Change}
use Rattle.shared.proofs.Sizes.{whole_append}
use Rattle.shared.proofs.writes.change_by.Goals as goal

pub returns-in-Append-clause-whole : goal.returns-in-Append-clause-whole
returns-in-Append-clause-whole g c =
    IfOk-weaker c.append.result
    (λ r. Made (event.Append c.args.handle c.args.bytes.now) (wrote (Ok r.0)) c.args.state.now c.append.new.self
    c.args.seat.now c.append.new.seat r.1)
    (λ r. IsWholeIn c.args.change c.args.bytes.now r.0)
    (λ r m. subst (λ (x : Change). IsWholeIn x c.args.bytes.now r.0) (sym c.in-Append.is)
    (whole_append g.B.Naming.files c.args.handle c.args.bytes.now r.0 c.args.state.now c.append.new.self c.args.seat.now
    c.append.new.seat r.1 c.core.ensures.legal m)) c.append.ensures.made
