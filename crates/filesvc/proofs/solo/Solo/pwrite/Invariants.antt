use Rattle.std.proofs.Common.{◌-◌}
use Rattle.machine.specs.declared.event.Event.TheVariants as event
use Rattle.filesvc.proofs.Attempts.{Trying}
use Rattle.filesvc.proofs.solo.Solo.pwrite.Given as goal

abbrev pub invariant-attempts : goal.invariant-attempts
invariant-attempts g l = Trying l.fn.self (event.Write (record { 0 = l.fn.handle.number }) l.fn.offset l.fn.bytes) l.self

abbrev pub decreases-attempts : goal.decreases-attempts
decreases-attempts g l = 256 - l.self.attempts
