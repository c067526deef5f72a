use Rattle.radix.proofs.CutLemmas.{all_first}
use Rattle.radix.proofs.parts.full_slots.Goals as goal

pub returns-then-step-eq0 : goal.returns-then-step-eq0
returns-then-step-eq0 c = all_first c.args.first c.args.step c.if-step-eq0.true
