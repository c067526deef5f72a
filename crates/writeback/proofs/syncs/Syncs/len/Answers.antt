use Rattle.std.proofs.Common.{ap, ◌∙◌, arith, nat_cmp}
use Rattle.std.specs.FinMap as map
use Rattle.machine.specs.State.{Sync}
use Rattle.writeback.proofs.SlotLemmas.{slots_few}
use Rattle.writeback.proofs.syncs.Syncs.len.Goals as goal

pub returns-clause-value : goal.returns-clause-value
returns-clause-value c = c.self.invariant.1 ∙ ap (λ (m : map.FinMap nat_cmp Sync). map.len m) c.self.view_is

pub returns-clause-few : goal.returns-clause-few
returns-clause-few c = omega (arith, c.self.invariant.0, c.self.invariant.1, slots_few c.self.inside.slots)
