use Rattle.ring.proofs.Steps.{pushes, stands}
use Rattle.ring.proofs.ring.Ring.push.Goals as goal

pub push_as-requires-clause-rule : goal.push_as-requires-clause-rule
push_as-requires-clause-rule g c = (pushes _ _ _ _ c.before.args.self.now.places c.requires.pass.1 c.requires.parcel, stands _ _ c.requires.pass.1)
