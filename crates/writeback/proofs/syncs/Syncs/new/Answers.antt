use Rattle.std.proofs.Common.{refl, rules, sym, nat_cmp}
use Rattle.std.specs.FinMap.{len-empty}
use Rattle.machine.specs.State.{Sync}
use Rattle.writeback.proofs.syncs.Syncs.new.Goals as goal

pub invariant_of-result : goal.invariant_of-result
invariant_of-result c = (refl, sym (len-empty nat_cmp Sync))
