use Rattle.std.proofs.Common.{◌≡◌, ◌-◌, length}
use Rattle.machine.specs.declared.event.Event.TheVariants as event
use Rattle.filesvc.proofs.Attempts.{Trying}
use Rattle.filesvc.proofs.solo.Solo.pread.Given as goal

abbrev pub invariant-attempts : goal.invariant-attempts
invariant-attempts g l = record { tries : Trying l.fn.self (event.Read (record { 0 = l.handle.number }) l.offset (length l.fn.out)) l.self; out : l.out ≡ l.fn.out }

abbrev pub decreases-attempts : goal.decreases-attempts
decreases-attempts g l = 256 - l.self.attempts
