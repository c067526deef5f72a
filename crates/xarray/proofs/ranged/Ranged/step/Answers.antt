use Rattle.xarray.proofs.WalkLemmas.{slot_after_is}
use Rattle.xarray.proofs.ranged.Ranged.step.Goals as goal

pub step_past-requires-2-clause-after : goal.step_past-requires-2-clause-after
step_past-requires-2-clause-after c = slot_after_is c.args.self.now c.slot_before-before.result c.args.from c.slot_before-before.ensures.level (rw (c.self.view_is) at c.slot_before-before.ensures.stands) c.slot_before-before.ensures.after
