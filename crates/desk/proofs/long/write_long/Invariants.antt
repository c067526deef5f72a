use Rattle.std.proofs.Common.{◌-◌, length}
use Rattle.desk.specs.Long.{HasWritten}
use Rattle.desk.proofs.long.write_long.Given as goal

abbrev pub invariant-parts : goal.invariant-parts
invariant-parts g l = HasWritten l.fn.solo l.fn.handle l.fn.offset l.fn.bytes l.solo l.done

abbrev pub decreases-parts : goal.decreases-parts
decreases-parts g l = length l.bytes - l.done
