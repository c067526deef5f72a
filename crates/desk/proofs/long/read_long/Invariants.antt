use Rattle.std.proofs.Common.{◌-◌, length}
use Rattle.desk.specs.Long.{HasRead}
use Rattle.desk.proofs.long.read_long.Given as goal

abbrev pub invariant-parts : goal.invariant-parts
invariant-parts g l = HasRead l.fn.solo l.fn.handle l.fn.offset (length l.fn.out) l.solo l.out l.done

abbrev pub decreases-parts : goal.decreases-parts
decreases-parts g l = length l.initial.out - l.done
