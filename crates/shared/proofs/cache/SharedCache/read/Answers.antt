use Rattle.std.proofs.Common.{ℕ, ap, length, subst}
use Rattle.machine.specs.declared.event.Event.TheVariants as event
use Rattle.shared.specs.Rooms.{IsShortFor}
use Rattle.shared.specs.Seen.{HandleSeen}
use Rattle.shared.proofs.cache.SharedCache.read.Goals as goal

pub returns-in-Err-clause-wanting : goal.returns-in-Err-clause-wanting
returns-in-Err-clause-wanting g c =
    subst (λ (n : ℕ). IsShortFor (event.Read c.args.handle.now.number n (length c.args.out.now)) c.args.seat.now
    c.pread.new.seat c.in-Err.denied) (ap (λ (x : HandleSeen). x.cursor) c.handle.view_is) c.in-Err.ensures.wanting
